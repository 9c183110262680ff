-- Laws that the proofs of the code, and of those that read lines, use.
pub mod ShortLaws
pub mod HeadLaws
