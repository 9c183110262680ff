-- What the definitions mean, their laws, and worked cases.
pub mod Exactly
pub mod WorkedPasses
pub mod PassLaws
pub mod ProgressLaws
pub mod Answers
pub mod Demand3
pub mod FiveMinute
pub mod PassStep
