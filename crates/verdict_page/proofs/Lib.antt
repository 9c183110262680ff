-- Laws that the proofs of the code use.
pub mod OrderLaws
pub mod ShownLaws
pub mod SellerLaws
pub mod TableLaws
