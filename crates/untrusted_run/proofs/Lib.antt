pub mod AccessCases
pub mod StepLemmas
pub mod InstructionLemmas
pub mod PhaseLemmas
pub mod LawLemmas
mod Worked
