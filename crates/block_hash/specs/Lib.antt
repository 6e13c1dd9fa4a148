pub mod BlockStrings
pub mod ProgramParts
pub mod StringLaws
