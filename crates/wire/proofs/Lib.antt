pub mod Bytes
pub mod Leads
pub mod Sizes
pub mod Bounds
pub mod Cursors
