-- What the definitions mean, their laws, and worked cases.
pub mod BookLaws
pub mod CostAfterBook
pub mod EntryLaws
pub mod GasRun
pub mod PriceInUse
pub mod Worked
