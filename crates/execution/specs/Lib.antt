pub mod Naming
pub mod Run
pub mod Traffic
