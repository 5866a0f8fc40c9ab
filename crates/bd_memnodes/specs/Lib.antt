pub mod Maps
pub mod Releasing
pub mod Plans
pub mod Stored
pub mod Carried
pub mod Seen
pub mod Reading
