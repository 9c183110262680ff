-- Laws that the proofs of the code use.
pub mod TallyLaws
pub mod SellerLaws
pub mod CellLaws
pub mod LargestLaws
pub mod JudgeLaws
pub mod JudgedLaws
pub mod MarketLaws
pub mod OfferLaws
mod PartLaws
mod SoundLaws
