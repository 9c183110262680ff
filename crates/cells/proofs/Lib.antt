-- Laws of the loops that put numbers, and of what calls answer.
pub mod PutLaws
pub mod AnswerLaws
