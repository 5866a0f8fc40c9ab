pub mod Finds
mod Parts
mod Cuts
mod Covers
mod OnKeys
mod Merges
mod Resolves
mod Sorts
mod Splitting
mod Clips
