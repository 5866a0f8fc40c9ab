pub mod Apart
pub mod Keys
pub mod Ranges
pub mod Edits
