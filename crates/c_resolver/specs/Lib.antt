pub mod Resolving
pub mod ResolvingViews
