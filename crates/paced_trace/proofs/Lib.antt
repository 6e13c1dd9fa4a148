pub mod CountLemmas
pub mod LeavingLemmas
pub mod PaceLemmas
pub mod PartLemmas
pub mod InstructionCounts
pub mod FuelLemmas
pub mod HeldLemmas
pub mod BusPaceLemmas
mod WorkedPace
mod WorkedFuel
mod WorkedParts
mod WorkedBus
