pub mod Events
pub mod Values
pub mod Standing
pub mod Finding
pub mod Calls
pub mod Offers
