pub mod Lengths
pub mod Scripts
pub mod Outputs
