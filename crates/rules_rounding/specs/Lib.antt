-- Definitions, in the request's order. What they mean stands in proofs/.
pub mod Ratios
pub mod Unrounded
pub mod Bound
pub mod Exact
