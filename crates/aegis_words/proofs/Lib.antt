pub mod FileReadingLemmas
mod NumberWordLemmas
mod ReadingExamples
mod WordExamples
