pub mod Lending
pub mod Trees
