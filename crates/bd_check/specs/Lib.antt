pub mod Causes
pub mod Lines
pub mod Reading
pub mod Recovered
pub mod Slots
pub mod Verdicts
