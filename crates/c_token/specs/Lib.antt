pub mod WordSpelling
pub mod SignSpelling
pub mod TokenSpelling
pub mod TextTokens
pub mod Fronts
pub mod PlainText
