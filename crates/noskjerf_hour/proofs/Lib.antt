-- Laws of what a call leaves, and of the answers of opening.
pub mod CallLaws
pub mod OpenLaws
