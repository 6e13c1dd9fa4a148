pub mod RunMeaning
pub mod RunSteps
