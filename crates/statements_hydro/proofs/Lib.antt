-- What the headline theorems of the pack say, in full.
pub mod Hydros
pub mod HydroUnits
pub mod HydroNumbers
