pub mod Tree
pub mod Step
pub mod Laws
