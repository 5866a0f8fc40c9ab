pub mod Walks
pub mod Unread
pub mod Tallies
pub mod Short
