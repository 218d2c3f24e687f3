pub mod Framing
pub mod Framed
