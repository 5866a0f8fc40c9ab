pub mod Batches
pub mod Commits
pub mod Logs
pub mod Reading
