pub mod Cursor
pub mod ScriptedMemory
pub mod Within
mod Worked
