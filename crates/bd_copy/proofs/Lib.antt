pub mod Copies
pub mod Narrowed
pub mod Shortened
pub mod Copied
