pub mod Answers
pub mod Sizes
