pub mod Versions
pub mod Stored
pub mod ImageTree
pub mod Standing
pub mod Used
pub mod Synced
pub mod Damage
pub mod Fresh
