mod Keeping
mod Packing
mod Sizing
