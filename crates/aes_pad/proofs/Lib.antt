mod CipherExamples
mod FieldExamples
pub mod LengthLemmas
pub mod PadLemmas
pub mod RoundLemmas
pub mod TableLemmas
pub mod WordLemmas
