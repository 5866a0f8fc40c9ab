pub mod Numbers
pub mod Reading
pub mod Encoding
pub mod Text
pub mod Writing
