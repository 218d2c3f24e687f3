pub mod Laws
pub mod Ranges
pub mod Judging
pub mod Examples
pub mod Showing
