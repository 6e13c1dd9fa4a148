pub mod Mentions
pub mod FunctionNumbers
pub mod OperatorDepth
pub mod SourceActs
pub mod SourceNodes
pub mod TestTokens
