pub mod CompilerTheorem
pub mod MemoryUse
pub mod Places
