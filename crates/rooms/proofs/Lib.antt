pub mod Zeros
pub mod Taken
pub mod Inputs
