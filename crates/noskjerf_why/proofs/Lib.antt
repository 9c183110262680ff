-- Laws of the answers, one for each way out.
pub mod WhyLaws
