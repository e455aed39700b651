pub mod Meanings
pub mod Surveys
pub mod Judges
pub mod Finals
