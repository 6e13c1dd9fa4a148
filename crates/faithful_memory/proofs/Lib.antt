pub mod WordsKept
pub mod ReadLemmas
pub mod AccessReads
pub mod TreeKept
pub mod CheckReads
pub mod OutsideReads
pub mod DataReads
pub mod DataAccesses
pub mod AlikeLemmas
pub mod AskingLemmas
pub mod HoldLemmas
pub mod AskedLemmas
pub mod EntryReads
pub mod EntryWords
pub mod EnteredLemmas
pub mod HomeLemmas
mod WordExamples
mod HomeExamples
pub mod StopLemmas
pub mod SettleLemmas
pub mod JoinLemmas
