pub mod BusStepLemmas
pub mod SegmentLemmas
pub mod TurnLemmas
mod Worked
mod WorkedBounds
mod WorkedRuns
