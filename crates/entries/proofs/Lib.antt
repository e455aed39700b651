pub mod Tables
pub mod Walks
