-- What the definitions mean, their laws, and worked cases.
pub mod SameValues
pub mod Examples
pub mod ExampleOrders
pub mod SellerOrder
pub mod SellerLines
pub mod WithinBound
pub mod StepBound
pub mod OwnPage
pub mod SellersFound
