pub mod NamingLemmas
pub mod RunLemmas
pub mod TrafficLemmas
mod Worked
