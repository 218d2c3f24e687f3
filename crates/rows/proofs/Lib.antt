pub mod Tests
pub mod Blocks
pub mod Plains
pub mod Noises
