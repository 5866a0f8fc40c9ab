pub mod EdgesAt
pub mod Made
pub mod PathSteps
pub mod OneSteps
pub mod ChildSteps
pub mod Raisings
pub mod RisingSteps
