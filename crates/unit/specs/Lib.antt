pub mod Objects
pub mod Units
pub mod Places
