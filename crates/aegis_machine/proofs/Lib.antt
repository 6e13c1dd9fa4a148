pub mod AlongLemmas
pub mod BoundaryLemmas
pub mod CheckLemmas
pub mod CauseLemmas
pub mod CheckCauses
pub mod ComesLemmas
mod ExamplesOfInstructions
mod ExamplesOfPrograms
pub mod EnteringLemmas
pub mod GuardLemmas
pub mod KeepLemmas
pub mod ProgramLemmas
pub mod LogEvents
pub mod ReadLemmas
pub mod RunLemmas
pub mod SecureGuards
pub mod SecureRuns
pub mod StopLemmas
pub mod TieLemmas
pub mod TurnCounts
pub mod TurnLemmas
mod WorkedBoundaries
mod WorkedCauses
pub mod WatchedLemmas
mod WorkedParts
