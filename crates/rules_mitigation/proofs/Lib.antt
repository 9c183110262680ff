-- What the definitions mean, their laws, and worked cases.
pub mod SegmentLaws
pub mod MitigationLaws
pub mod FallLaws
pub mod MitigatedCurve
pub mod Examples
