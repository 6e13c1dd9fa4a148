pub mod NameRoom
pub mod Operators
