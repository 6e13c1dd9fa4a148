pub mod PrintedTokens
pub mod ProgramPrinting
pub mod PrintedParts
