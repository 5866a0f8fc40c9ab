pub mod Records
pub mod Overwriting
pub mod Writes
pub mod Pieces
pub mod Truncations
pub mod Sent
pub mod Root
