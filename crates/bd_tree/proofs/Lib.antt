pub mod Applying
pub mod Flushing
pub mod Reclaiming
