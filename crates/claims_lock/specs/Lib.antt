pub mod Honours
