pub mod Fine
pub mod Given
pub mod Rooms
pub mod Shown
pub mod Stopped
pub mod Found
