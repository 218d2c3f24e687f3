pub mod Shown
pub mod Finding
pub mod Labelled
pub mod Examples
