pub mod Frames
pub mod Headers
