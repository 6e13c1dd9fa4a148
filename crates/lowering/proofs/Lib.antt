pub mod Relation
pub mod Labels
pub mod Ops
pub mod Calling
pub mod Expressions
pub mod Statements
pub mod Functions
pub mod Programs
pub mod Homes
pub mod Standing
pub mod CellsOfFunctions
pub mod Fitting
pub mod Variables
pub mod Names
pub mod Listed
pub mod Starting
pub mod Whole
pub mod Sizing
pub mod Forms
pub mod Formed
mod Premises
mod Worked
