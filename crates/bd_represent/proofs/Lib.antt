pub mod KeyLemmas
pub mod FileLemmas
pub mod ActLemmas
pub mod TreeLemmas
pub mod NumberOrder
pub mod SubtreeLemmas
pub mod OneTree
