pub mod Kept
pub mod Layout
pub mod Sizes
pub mod Stores
