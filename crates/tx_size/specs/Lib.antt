pub mod Lengths
pub mod Places
