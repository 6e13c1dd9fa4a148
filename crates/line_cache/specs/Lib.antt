pub mod LineMaps
pub mod LineOrder
pub mod SlotLists
pub mod SlotState
pub mod CacheState
pub mod EntryLaws
pub mod OrderLaws
