pub mod Addresses
pub mod Blocks
pub mod LooseClasses
pub mod Modes
pub mod Rights
pub mod Tree
