pub mod AsWrittenLemmas
pub mod GrowthLemmas
pub mod InsertLemmas
pub mod RemoveLemmas
pub mod WriteBackLemmas
pub mod SlotLemmas
pub mod SchemeLemmas
pub mod CallLemmas
pub mod EvictLemmas
pub mod MoveLemmas
pub mod EnterLemmas
pub mod EnterParts
pub mod EntryLemmas
pub mod EntryNumbers
pub mod NodeLemmas
pub mod UnderLemmas
pub mod FlushLemmas
pub mod PathLemmas
pub mod PathLoads
pub mod KeptLemmas
mod Examples
mod EntryExamples
mod FlushExamples
mod LeavingExamples
mod MoveExamples
pub mod LeavingLemmas
mod StandingExamples
pub mod LoadLemmas
pub mod LawProofs
