pub mod Cause
pub mod Gathering
pub mod Memory
pub mod Plan
pub mod Takes
pub mod Written
