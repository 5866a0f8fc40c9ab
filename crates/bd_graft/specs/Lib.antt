pub mod Layers
pub mod Walking
pub mod Packing
pub mod Looking
pub mod Grafting
