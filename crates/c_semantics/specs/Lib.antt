pub mod Meaning
pub mod MeaningLaws
pub mod Nodes
pub mod ProgramShape
pub mod ResolvedTree
pub mod ResolvedViews
pub mod States
