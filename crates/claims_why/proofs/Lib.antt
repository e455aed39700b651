pub mod Contents
pub mod Places
pub mod Sequences
