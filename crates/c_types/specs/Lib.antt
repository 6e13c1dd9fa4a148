pub mod Sites
pub mod TypingRules
pub mod Verdicts
pub mod Walks
pub mod Checked
