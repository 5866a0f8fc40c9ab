pub mod Command
pub mod Log
