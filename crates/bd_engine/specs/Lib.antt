pub mod Engines
pub mod Reclaiming
pub mod Stored
pub mod Writes
