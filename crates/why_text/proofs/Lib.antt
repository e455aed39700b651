pub mod Wholes
pub mod Sizes
