pub mod Stands
pub mod Pieces
pub mod Sizes
