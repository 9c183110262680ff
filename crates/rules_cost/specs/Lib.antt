-- Definitions, in the paper's order. What they mean stands in proofs/.
pub mod Costs
pub mod Conditions
pub mod Meaning
