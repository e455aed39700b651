pub mod Rows
pub mod Meanings
pub mod Sizes
