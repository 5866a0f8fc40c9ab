pub mod Reading
pub mod NumberWords
pub mod Verbs
pub mod Commands
pub mod Forms
pub mod Ranges
pub mod Values
pub mod Outcomes
