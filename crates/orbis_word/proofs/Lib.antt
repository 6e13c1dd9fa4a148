mod Examples
pub mod Lines
pub mod SmallConstants
pub mod WordLaws
