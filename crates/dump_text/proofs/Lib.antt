pub mod Pieces
pub mod Walks
pub mod Wholes
pub mod Contents
pub mod Sizes
