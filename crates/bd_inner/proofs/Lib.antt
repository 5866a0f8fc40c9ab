pub mod Splitting
pub mod Moved
pub mod Exchanged
pub mod Fitting
mod FreedMessages
pub mod ClippedEdges
mod Clipped
pub mod CarvingParts
pub mod CarvingOwned
pub mod Carved
pub mod Named
