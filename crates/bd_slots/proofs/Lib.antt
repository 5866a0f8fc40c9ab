mod BitLemmas
pub mod Filled
mod FlagLemmas
pub mod Items
