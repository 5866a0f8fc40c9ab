pub mod Bodies
pub mod Damage
pub mod Halves
pub mod Heads
pub mod LiveLemmas
pub mod Ready
pub mod Staging
