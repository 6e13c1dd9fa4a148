pub mod KeptRuns
mod SafeExamples
