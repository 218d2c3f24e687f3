pub mod Packets
pub mod Writing
pub mod Objects
