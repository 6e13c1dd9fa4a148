pub mod Calls
pub mod MachineStates
