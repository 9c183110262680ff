-- What the definitions mean, their laws, and worked cases.
pub mod ResourceLaws
pub mod CaseT
pub mod ResourceExactly
pub mod Exactly
pub mod FreshHour
pub mod Worked
