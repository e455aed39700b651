pub mod Laws
pub mod Sizes
