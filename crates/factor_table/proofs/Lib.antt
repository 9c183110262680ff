-- Laws that the proofs of the code use.
pub mod FactorLaws
pub mod RowsLaws
