-- What the definitions mean, their laws, and worked cases.
pub mod Meaning
pub mod Examples
pub mod GasLaws
pub mod SliceLaws
pub mod DefaultAnswers
pub mod ExactBids
