pub mod Refusing
pub mod Order
pub mod Walking
pub mod Readings
pub mod Told
