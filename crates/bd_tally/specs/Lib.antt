pub mod Ids
pub mod Counts
pub mod Seen
