pub mod Looks
pub mod Stretches
pub mod Asks
pub mod Runs
