pub mod Decimal
pub mod Events
pub mod Tables
pub mod Texts
