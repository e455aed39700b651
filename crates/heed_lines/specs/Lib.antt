pub mod Heeds
pub mod Examples
