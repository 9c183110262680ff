-- Definitions, in the request's order. What they mean stands in proofs/.
pub mod Book
pub mod Booked
pub mod Meaning
