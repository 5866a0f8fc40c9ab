pub mod Layout
pub mod Slots
pub mod Words
