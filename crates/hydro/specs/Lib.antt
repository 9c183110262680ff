-- Definitions that the contracts of the crate cite.
pub mod Given
