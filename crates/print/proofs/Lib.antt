-- Laws on digits that are put as bytes of one number, and on lines of four values.
pub mod DigitLaws
