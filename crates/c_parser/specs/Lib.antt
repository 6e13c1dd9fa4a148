pub mod CursorAnswers
pub mod Levels
pub mod DescentLaws
