-- Laws that the proofs of the code use.
pub mod PutLaws
pub mod CellWalk
pub mod RowLaws
pub mod UncutLaws
