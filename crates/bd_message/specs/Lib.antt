pub mod Codec
pub mod Effect
pub mod Entries
pub mod Freeing
pub mod KeyMaps
pub mod Messages
pub mod Counters
pub mod Reads
