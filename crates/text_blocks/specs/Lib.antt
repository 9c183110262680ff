-- Definitions that the contracts of opening_part cite.
pub mod Blocks
