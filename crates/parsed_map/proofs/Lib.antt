pub mod Twins
pub mod Items
pub mod Fronts
