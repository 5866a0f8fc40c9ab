pub mod Files
pub mod Sends
pub mod FilePlans
pub mod Roots
pub mod Smalls
