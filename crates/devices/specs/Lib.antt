pub mod Keys
pub mod Sections
pub mod Tables
