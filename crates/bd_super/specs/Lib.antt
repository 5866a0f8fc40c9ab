pub mod Live
pub mod Published
pub mod Superblocks
