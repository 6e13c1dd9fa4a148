pub mod Arrays
pub mod Bytes
mod Examples
pub mod Results
pub mod Shared
pub mod Values
