pub mod Answered
pub mod Equations
pub mod Exact
pub mod Globals
pub mod Noted
pub mod Rooms
mod Worked
