pub mod Copying
pub mod Narrowing
pub mod Shortening
pub mod Privatising
