pub mod EntryKeys
pub mod Represents
pub mod Plans
