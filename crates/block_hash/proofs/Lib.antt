pub mod StringLemmas
mod Examples
