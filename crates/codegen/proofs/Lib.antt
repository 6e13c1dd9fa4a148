mod CodeExamples
mod CodeSizes
pub mod Comes
mod ConstantSizes
pub mod Elements
mod Holding
mod ImageExamples
pub mod Imaging
pub mod Jumping
mod LabelNumbers
pub mod Ops
pub mod Parts
pub mod Placing
pub mod Plain
pub mod Registers
pub mod Remainders
pub mod Rules
pub mod Running
mod SameCode
pub mod Sizes
pub mod Starting
pub mod Statics
mod TablePlaces
