-- Laws of the blocks of an opening.
pub mod BlockLaws
pub mod RunLaws
pub mod OpenLaws
pub mod CellLaws
pub mod StepLaws
pub mod IntoLaws
pub mod CurveLaws
pub mod RowLaws
