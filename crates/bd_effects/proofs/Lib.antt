pub mod Carried
pub mod Fitting
pub mod Limits
pub mod OnNodes
pub mod Stepping
pub mod Uncounted
