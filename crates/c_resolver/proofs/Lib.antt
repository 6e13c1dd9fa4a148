pub mod Lists
pub mod Rows
pub mod Programs
mod TypeRows
