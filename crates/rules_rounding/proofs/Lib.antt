-- What the definitions mean, their laws, and worked cases.
pub mod RatioLaws
pub mod NearLaws
pub mod Bounded
pub mod Stands
pub mod Quantities
pub mod Worked
