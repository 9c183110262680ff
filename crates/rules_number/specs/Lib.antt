-- Definitions, in the paper's order. What they mean stands in proofs/.
pub mod Order
pub mod Ceil
pub mod Over
pub mod Least
