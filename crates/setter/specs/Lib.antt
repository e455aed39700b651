pub mod Records
pub mod Fills
pub mod Rights
