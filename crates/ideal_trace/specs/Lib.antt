pub mod FaithfulRuns
pub mod IdealRuns
pub mod CutBack
pub mod Prefixes
pub mod LooseRuns
pub mod Counts
pub mod SameSteps
