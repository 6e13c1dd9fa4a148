pub mod ReaderAnswers
pub mod SourceText
