-- Definitions, in the paper's order. What they mean stands in proofs/.
pub mod Conditions
pub mod Cuts
pub mod Hours
pub mod Opened
pub mod Demand3
