-- How the code holds its values.
pub mod Shown
pub mod Orders
