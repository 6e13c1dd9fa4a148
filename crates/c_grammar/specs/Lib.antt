pub mod BoundedTokens
pub mod Precedence
pub mod ExpressionGrammar
pub mod StatementGrammar
pub mod ProgramGrammar
pub mod TokenPrograms
pub mod Bare
