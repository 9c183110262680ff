-- Definitions, in the paper's order. What they mean stands in proofs/.
pub mod Refusals
pub mod Curves
pub mod Meaning
pub mod Demands
pub mod Conditions
