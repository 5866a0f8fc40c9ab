pub mod Lines
pub mod Replies
pub mod Reading
pub mod Faults
pub mod Generated
