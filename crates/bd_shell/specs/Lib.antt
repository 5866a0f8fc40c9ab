pub mod Fault
pub mod Transcript
pub mod Crashes
pub mod Session
pub mod Shell
pub mod Taken
