pub mod Surveys
