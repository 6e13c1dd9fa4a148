pub mod ChangedStates
pub mod DueChanges
pub mod EmptyScript
pub mod ScriptMemory
pub mod ScriptedInvariant
pub mod ScriptedValues
pub mod StoredStates
