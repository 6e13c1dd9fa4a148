pub mod PrintedForms
mod PrintedExamples
pub mod PlainEnds
pub mod ForTexts
pub mod FineTokens
pub mod PrintedExpressions
pub mod PrintedStatements
pub mod PrintedPrograms
pub mod ReadsBack
pub mod Printable
