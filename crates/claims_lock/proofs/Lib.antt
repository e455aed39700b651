pub mod Decisions
pub mod Ends
pub mod Honours
pub mod Calls
pub mod Promises
