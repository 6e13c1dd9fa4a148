pub mod ImageRuns
