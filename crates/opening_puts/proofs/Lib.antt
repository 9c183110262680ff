-- Laws of the numbers of a resource, put and read back.
pub mod PutLaws
pub mod BackLaws
pub mod HeldLaws
