pub mod Bytes
pub mod Inputs
pub mod Outputs
pub mod Wholes
