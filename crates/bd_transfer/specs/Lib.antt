pub mod Asking
pub mod Giving
