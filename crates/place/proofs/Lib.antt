pub mod Answers
pub mod Kept
pub mod Lives
pub mod Codes
pub mod Told
