-- What the proofs of the functions share.
pub mod TurnLaws
pub mod FoundLaws
