pub mod Answering
pub mod Promises
pub mod Examples
pub mod Told
