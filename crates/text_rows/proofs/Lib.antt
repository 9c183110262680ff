-- Laws that the proofs of the code use.
pub mod StandLaws
