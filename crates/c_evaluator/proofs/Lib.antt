pub mod Lookups
pub mod Sizes
pub mod Given
pub mod Callable
pub mod Forms
pub mod Ends
pub mod Started
