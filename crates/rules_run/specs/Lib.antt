-- Definitions, in the paper's order. What they mean stands in proofs/.
pub mod Run
pub mod Formerly
