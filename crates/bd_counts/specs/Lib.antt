pub mod Naming
pub mod Releasing
pub mod Counting
pub mod Reading
pub mod Frames
