pub mod Wishes
pub mod Decisions
pub mod Locks
