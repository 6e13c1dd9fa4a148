pub mod CarryingLemmas
pub mod FlatIdealLemmas
pub mod FlatLaws
pub mod FlatLemmas
mod IdealExamples
pub mod IdealLemmas
pub mod LeftLemmas
pub mod LooseningLemmas
pub mod OwnLemmas
pub mod ProcessorLemmas
mod RowExamples
pub mod SoundnessLemmas
pub mod StepLaws
pub mod WholeLemmas
