pub mod Spots
pub mod Say
pub mod Spelled
pub mod Examples
