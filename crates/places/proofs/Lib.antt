pub mod Counting
pub mod Serials
pub mod Rules
pub mod Held
pub mod Sought
mod Reaching
mod Loops
mod Marks
mod Hitting
mod Sweeping
