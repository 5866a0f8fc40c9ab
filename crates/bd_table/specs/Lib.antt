pub mod Entries
pub mod Image
pub mod Tables
pub mod Words
