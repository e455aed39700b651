pub mod Answers
pub mod Asked
pub mod Newer
pub mod Calls
pub mod Meaning
pub mod Examples
