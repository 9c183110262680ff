-- Laws that the proofs of the code use.
pub mod RowLaws
pub mod OverLaws
