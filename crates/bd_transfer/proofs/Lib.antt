pub mod Asked
pub mod Trees
pub mod Gone
pub mod Arriving
