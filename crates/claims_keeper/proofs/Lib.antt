pub mod Keeper
pub mod Runs
