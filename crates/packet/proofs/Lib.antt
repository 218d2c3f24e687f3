pub mod Contents
pub mod Heads
pub mod Opening
pub mod Carried
pub mod Examples
