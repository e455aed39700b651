pub mod Rows
pub mod Types
pub mod Fronts
pub mod Free
