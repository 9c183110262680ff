-- Laws that the proofs of opening_part use.
pub mod PairLaws
pub mod BlockLaws
pub mod LastLaws
pub mod WindowLaws
pub mod DecodeLaws
pub mod LongLaws
pub mod OpeningLaws
