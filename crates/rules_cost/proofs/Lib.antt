-- What the definitions mean, their laws, and worked cases.
pub mod RangeLaws
pub mod SplitLaws
pub mod EdgeLaws
pub mod CostLaws
pub mod RefusalLaws
pub mod DefaultCurve
pub mod Examples
pub mod Exactly
pub mod Formula
pub mod Split
pub mod Former
