pub mod Offline
pub mod LineLemmas
pub mod SumLemmas
pub mod TraceLemmas
pub mod LogLemmas
pub mod LoadLemmas
pub mod CheckLemmas
pub mod PassLemmas
pub mod RoomLemmas
pub mod StartLemmas
pub mod ContentLemmas
pub mod EventLemmas
pub mod LawProofs
mod Worked
