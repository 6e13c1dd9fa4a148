mod Worked
pub mod Longest
pub mod Classes
pub mod Names
pub mod Numbers
pub mod SignFronts
pub mod NumberReads
pub mod Texts
pub mod Cases
pub mod Scan
pub mod PlainFronts
pub mod PlainNumbers
pub mod PlainSigns
pub mod PlainTexts
pub mod TokenForms
