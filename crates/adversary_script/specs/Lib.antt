pub mod ScriptRules
pub mod LineFields
pub mod LineForms
pub mod ScriptGrammar
pub mod FormMeanings
pub mod LatestMoments
pub mod ScriptTexts
