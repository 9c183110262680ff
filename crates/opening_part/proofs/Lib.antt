-- Laws that the proofs of the code use.
pub mod OpenedLaws
pub mod PartLaws
