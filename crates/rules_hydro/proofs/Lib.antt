-- What the definitions mean.
pub mod ReadLaws
pub mod HydroPrice
pub mod Exactly
pub mod Larger
pub mod Unread
pub mod Units
pub mod Worked
