mod Lists
mod Rising
mod Lifting
mod Alone
mod Fitting
mod Rest
pub mod Decodes
