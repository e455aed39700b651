pub mod Keeper
pub mod Examples
