mod Images
mod Buffers
mod Chains
mod Headers
mod Bodies
mod Ones
