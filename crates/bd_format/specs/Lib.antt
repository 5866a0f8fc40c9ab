pub mod Decoding
pub mod Images
pub mod Parts
pub mod Slots
