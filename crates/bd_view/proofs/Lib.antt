pub mod Fresh
pub mod Listed
pub mod Logs
pub mod Reclaimed
pub mod Records
pub mod Saved
pub mod Standing
pub mod Steps
