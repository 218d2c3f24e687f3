pub mod Runs
pub mod Lines
pub mod Shifts
pub mod Receivers
