pub mod Trees
pub mod Views
pub mod Moves
pub mod Reclaiming
