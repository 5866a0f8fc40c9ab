pub mod Calls
pub mod Changes
pub mod Crash
pub mod Images
pub mod Left
pub mod Moments
pub mod Passes
pub mod Refusals
