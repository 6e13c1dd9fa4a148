pub mod OpenAccesses
pub mod PhaseLaws
pub mod PhaseParts
pub mod Phases
