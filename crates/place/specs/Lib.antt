pub mod Modes
pub mod Outcomes
pub mod Rules
pub mod Steps
