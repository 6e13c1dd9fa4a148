pub mod CountLemmas
pub mod CutLemmas
pub mod EventLemmas
pub mod FrontLemmas
pub mod GoingLemmas
pub mod LooseLemmas
pub mod MoreWordsLemmas
pub mod RefusalLemmas
pub mod SameLemmas
pub mod SoundLemmas
pub mod StandsLemmas
pub mod StepLemmas
mod Worked
mod WorkedRuns
mod WorkedTraces
