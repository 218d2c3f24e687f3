pub mod Rules
pub mod Release13
pub mod Release14
pub mod Release15
pub mod Release16
