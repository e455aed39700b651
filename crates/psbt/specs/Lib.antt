pub mod Leans
pub mod Steps
