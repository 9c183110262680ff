-- What the definitions mean, their laws, and worked cases.
pub mod Examples
pub mod OpeningExamples
pub mod IntervalStages
pub mod DeclaredLaws
pub mod FactorBack
pub mod KeptLaws
pub mod IntervalBack
pub mod OpeningBack
pub mod FaultLaws
pub mod TableFaults
pub mod FirstFault
pub mod OnlyRows
pub mod OnlyOpening
pub mod OnlyInterval
pub mod Meaning
pub mod ExactTexts
pub mod TextExamples
