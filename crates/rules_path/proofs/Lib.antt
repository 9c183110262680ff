-- What the definitions mean, their laws, and worked cases.
pub mod BitLaws
pub mod LargestLaws
pub mod TopLaws
pub mod MaskLaws
pub mod PathLaws
pub mod PathVerdict
pub mod SamePath
pub mod Examples
pub mod JudgedOn
pub mod FindingNumbers
