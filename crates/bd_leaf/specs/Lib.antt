pub mod Places
pub mod Leaves
pub mod Points
pub mod Merging
