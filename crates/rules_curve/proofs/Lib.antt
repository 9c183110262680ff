-- What the definitions mean, their laws, and worked cases.
pub mod PriceLaws
pub mod CheckLaws
pub mod ChainLaws
pub mod QuoteLaws
pub mod RawLaws
pub mod RefusalLaws
pub mod Examples
pub mod FirstLaws
pub mod Exactly
pub mod Answered
