pub mod Digits
pub mod Adding
pub mod Wording
pub mod Saying
pub mod Limits
