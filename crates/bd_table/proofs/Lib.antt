pub mod BlockLemmas
pub mod EntryLemmas
pub mod FreeLemmas
pub mod TableLemmas
pub mod WordLemmas
pub mod WriteLemmas
