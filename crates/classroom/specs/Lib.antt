-- How the code makes the bids.
pub mod Places
