pub mod Worked
mod BareExamples
pub mod BareForms
pub mod BareParts
pub mod Alike
pub mod AlikeExpressions
pub mod AlikeStatements
pub mod AlikePrograms
pub mod AlikeKinds
pub mod PlaceLaws
