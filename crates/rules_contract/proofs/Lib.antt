-- What the definitions mean, their laws, and worked cases.
pub mod StepLaws
pub mod JoinLaws
pub mod Exactly
pub mod Joins
pub mod Units
pub mod Worked
