pub mod Words
pub mod Fitting
pub mod Puts
