pub mod Finds
mod Nexts
mod EncodingSizes
mod Views
pub mod Prefixes
pub mod Freed
pub mod Causes
