pub mod EntryNodes
pub mod GoodAnswers
pub mod Recoveries
pub mod Settled
pub mod SlotReads
