-- Laws of the loops that copy numbers.
pub mod CopyLaws
