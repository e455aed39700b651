pub mod Bytes
pub mod Puts
pub mod Rooms
