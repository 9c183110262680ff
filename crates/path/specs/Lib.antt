-- Definitions that the contracts of the crate cite.
pub mod Tallies
pub mod Offered
