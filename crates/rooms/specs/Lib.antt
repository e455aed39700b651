pub mod Limits
pub mod Rooms
