pub mod FlatLaws
pub mod FlatMeaning
pub mod FlatStates
pub mod Lawful
pub mod OpTable
