-- Definitions, in the paper's order. What they mean stands in proofs/.
pub mod Numbers
pub mod Tables
pub mod Offsets
pub mod Words
pub mod Printing
pub mod Spelled
