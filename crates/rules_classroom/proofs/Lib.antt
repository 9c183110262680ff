-- What the definitions mean, their laws, and worked cases.
pub mod Listed
pub mod Worked
pub mod Every
