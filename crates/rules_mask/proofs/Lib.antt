-- Laws of sets that are numbers.
pub mod SetLaws
pub mod SizeLaws
pub mod CountLaws
