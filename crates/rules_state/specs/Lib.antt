-- Definitions: the state of an hour in numbers, and what the calls read and write. What they mean stands in proofs/.
pub mod Layout
pub mod States
pub mod Fits
pub mod Openings
pub mod Intervals
pub mod Verdicts
pub mod Causes
pub mod Takes
pub mod OpenedInto
pub mod Calls
pub mod Curves
pub mod Lists
