pub mod Runs
pub mod Gathers
pub mod Fields
pub mod Inputs
pub mod Numbers
