-- Laws of the hour that cells stand for, and of verdicts read back from cells.
pub mod HourLaws
pub mod VerdictsBack
pub mod OutputLaws
