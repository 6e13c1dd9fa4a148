pub mod MapLemmas
pub mod SlotLemmas
pub mod CacheLemmas
pub mod VictimLemmas
mod Worked
