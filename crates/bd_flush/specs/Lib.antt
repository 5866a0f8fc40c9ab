pub mod GoingDown
pub mod Splitting
pub mod Children
pub mod Pushing
pub mod Between
pub mod Carving
