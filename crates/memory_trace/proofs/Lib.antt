pub mod Growing
pub mod InOrder
pub mod MoveFor
pub mod CleanLemmas
pub mod HonestMoves
pub mod SoundMoves
pub mod SoundOthers
pub mod SoundAccesses
pub mod LineLemmas
pub mod LineAccesses
pub mod FewResident
pub mod EntryTraces
pub mod HeldPathLemmas
pub mod EpochProofs
pub mod EntryOrder
pub mod ProgramProofs
mod WorkedTraces
mod WorkedLines
