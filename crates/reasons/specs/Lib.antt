pub mod Rows
pub mod Reasons
