-- Laws that the proofs of the code use.
pub mod ReadLaws
pub mod IntervalLaws
pub mod PartLaws
