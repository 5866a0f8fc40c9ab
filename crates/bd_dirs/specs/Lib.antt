pub mod Kinds
pub mod Sendings
pub mod Plans
pub mod Listings
