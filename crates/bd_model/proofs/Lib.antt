pub mod PathOrder
pub mod TreeGets
pub mod Accepted
pub mod TreeLaws
pub mod TreeStays
pub mod Listing
