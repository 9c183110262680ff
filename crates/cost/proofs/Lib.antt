-- Laws that the proofs of the code use.
pub mod CellLaws
pub mod LiftLaws
pub mod NumberLaws
pub mod RiseLaws
pub mod StepLaws
