mod MadeItems
mod MadeDerived
mod TightTokens
mod MadeTokens
mod MadeNames
mod MadeTyped
mod MadeSafe
mod MadeFits
mod SoundExamples
pub mod SoundSources
