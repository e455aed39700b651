pub mod Alls
pub mod Places
