-- What the definitions mean, their laws, and worked cases.
pub mod CountLaws
pub mod RunLaws
pub mod EndLaws
pub mod ValueNumbers
pub mod Meaning
pub mod Course
pub mod OwnLines
pub mod RefusedLine
pub mod WrittenLines
pub mod Written
pub mod Examples
pub mod SoFar
pub mod Program
pub mod LastLines
