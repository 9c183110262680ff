-- What the definitions mean, their laws, and worked cases.
pub mod FactorLaws
pub mod IntervalLaws
pub mod Exactly
