pub mod Roles
pub mod Takes
pub mod Boxes
