mod Counting
mod Examples
pub mod HomeLaws
