pub mod Lines
pub mod Dump
pub mod Contents
pub mod Examples
