pub mod Scopes
pub mod Declarations
pub mod KeptNames
