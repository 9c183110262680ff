-- Laws of a verdict in cells, and of the answers of calls that put verdicts.
pub mod VerdictLaws
pub mod CallLaws
