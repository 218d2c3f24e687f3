pub mod Taking
pub mod Promises
pub mod Boxes
