pub mod Records
pub mod Judges
pub mod Fills
pub mod Rights
pub mod Sets
