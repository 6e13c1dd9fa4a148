pub mod BusMachine
pub mod BusSegments
pub mod EventBounds
pub mod BusAccesses
pub mod BusSteps
pub mod BusData
pub mod BusTurns
