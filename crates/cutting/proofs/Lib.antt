-- Laws that the proofs of the code use.
pub mod EnteringLaws
pub mod CellLaws
pub mod AlikeLaws
