pub mod Halves
pub mod Batches
pub mod Exchanging
pub mod Clipping
pub mod Carving
