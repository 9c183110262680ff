-- Laws that the proofs of the code use.
pub mod CellLaws
pub mod TookLaws
pub mod GoingLaws
pub mod PartsLaws
pub mod LinesPut
pub mod KeptLaws
