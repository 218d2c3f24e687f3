pub mod Names
pub mod Fronts
