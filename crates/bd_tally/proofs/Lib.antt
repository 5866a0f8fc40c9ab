pub mod IdLemmas
pub mod CountLemmas
pub mod Searching
pub mod Wrongs
pub mod Seeing
