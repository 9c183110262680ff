-- What the definitions mean, their laws, and worked cases.
pub mod WorkedBids
pub mod HourBidIs
