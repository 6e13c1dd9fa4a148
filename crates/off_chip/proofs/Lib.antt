pub mod AnswerLemmas
pub mod ByteLemmas
pub mod HistoryLemmas
pub mod HonestLemmas
pub mod PlainMemory
pub mod SplitLemmas
pub mod BoundaryLemmas
pub mod StepLemmas
pub mod WriteLemmas
pub mod DigestLemmas
pub mod FaithfulLemmas
pub mod ResidencyLemmas
pub mod StaticLemmas
pub mod EpochLemmas
pub mod MoreLemmas
mod Examples
mod Worked
pub mod BusLemmas
pub mod CollisionLemmas
pub mod StretchLemmas
mod Pins
