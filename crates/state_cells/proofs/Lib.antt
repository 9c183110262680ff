-- Laws of floor prices in cells.
pub mod FloorLaws
