pub mod Prefixes
pub mod Covers
pub mod Follows
pub mod Going
pub mod Leads
