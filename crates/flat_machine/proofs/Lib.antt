mod Bytes
pub mod Counts
mod Examples
mod Layouts
mod Progress
mod Released
pub mod Runs
mod Sending
