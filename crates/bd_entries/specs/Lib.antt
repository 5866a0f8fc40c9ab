pub mod Fronts
pub mod Marks
pub mod Verdicts
pub mod Passes
