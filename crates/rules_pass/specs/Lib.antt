-- Definitions, in the request's order. What they mean stands in proofs/.
pub mod Conditions
pub mod Passes
pub mod Calls
pub mod FiveMinute
