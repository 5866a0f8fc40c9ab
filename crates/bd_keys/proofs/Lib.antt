pub mod Order
mod Opens
mod PrefixRange
mod Lifts
pub mod EditLemmas
