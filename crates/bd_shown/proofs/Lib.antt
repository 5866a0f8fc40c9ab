pub mod Alike
pub mod Kept
pub mod Numbers
pub mod Saved
