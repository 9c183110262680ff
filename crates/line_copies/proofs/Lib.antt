-- Laws that the proofs of the code use, and those of a page's groups of lines.
pub mod HeadLaws
pub mod GroupLines
