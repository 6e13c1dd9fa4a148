pub mod KeptLemmas
mod NameEquality
