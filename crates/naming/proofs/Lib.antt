pub mod Naming
pub mod Fronts
