pub mod Joins
pub mod Participants
