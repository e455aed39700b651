pub mod Leans
pub mod Steps
pub mod Loops
pub mod Parses
