-- Definitions that the contracts of the crate, and of those that read lines, cite.
pub mod Heads
pub mod Shorts
