pub mod Numerals
pub mod Drafts
pub mod Lines
pub mod Texts
mod Worked
