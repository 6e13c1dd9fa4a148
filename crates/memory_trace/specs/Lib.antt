pub mod TracedEvents
pub mod SoundTraces
pub mod KeptTraces
pub mod ResidentLines
pub mod EnteredTraces
pub mod HeldPaths
pub mod CleanEpochs
pub mod CleanPrograms
