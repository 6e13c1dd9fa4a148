pub mod CellLaws
pub mod Cells
pub mod Lowering
pub mod LoweringLaws
pub mod Sizes
