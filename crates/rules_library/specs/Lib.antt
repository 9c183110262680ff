-- Definitions, in the paper's order. What they mean stands in proofs/.
pub mod Answers
pub mod Gas
pub mod Slices
