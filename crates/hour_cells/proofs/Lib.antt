-- Laws of the curve of a row, and of what a call promises.
pub mod CallLaws
