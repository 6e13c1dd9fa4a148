mod Examples
mod Ranges
