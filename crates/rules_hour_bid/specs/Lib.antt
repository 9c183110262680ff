-- Definitions, in the request's order. What they mean stands in proofs/.
pub mod HourBids
pub mod Meaning
