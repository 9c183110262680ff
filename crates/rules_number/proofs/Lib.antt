-- What the definitions mean, their laws, and worked cases.
pub mod Kit
pub mod Meant
pub mod OrderLaws
pub mod CeilSize
pub mod CeilLaws
pub mod OverLaws
pub mod LeastLaws
pub mod ListedLaws
pub mod SumLaws
pub mod TestLaws
pub mod HighestLaws
pub mod RangeLaws
pub mod Examples
pub mod CellLaws
pub mod ExactLaws
