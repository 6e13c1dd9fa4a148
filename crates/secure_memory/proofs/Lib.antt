pub mod EventLists
pub mod EntryEvents
pub mod OutsideProofs
pub mod WordLemmas
pub mod PlaceLemmas
pub mod TreeReach
pub mod LogReach
pub mod TreeActs
pub mod LogActs
pub mod AccessLemmas
pub mod StoreActs
pub mod OpenActs
pub mod FetchLemmas
pub mod IdealLemmas
pub mod PrivateLemmas
mod AccessExamples
mod PadExamples
mod PrivateExamples
