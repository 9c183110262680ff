-- Definitions, in the paper's order. What they mean stands in proofs/.
pub mod Paths
pub mod Verdicts
pub mod Judgements
