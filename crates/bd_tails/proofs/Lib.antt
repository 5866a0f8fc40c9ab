pub mod Blocks
pub mod Known
