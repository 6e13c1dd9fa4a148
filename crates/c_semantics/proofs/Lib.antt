pub mod LawProofs
mod PinnedRuns
pub mod Relating
mod ShapeExamples
pub mod ViewForms
