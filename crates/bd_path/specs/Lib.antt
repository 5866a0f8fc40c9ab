pub mod Fetching
pub mod Flushed
pub mod Made
pub mod Paths
pub mod Raising
