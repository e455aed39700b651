pub mod Lays
pub mod Chains
pub mod Sizes
