-- Definitions, in the paper's order. What they mean stands in proofs/.
pub mod Resources
pub mod Openings
pub mod ResourceConditions
pub mod Conditions
