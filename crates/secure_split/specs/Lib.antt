pub mod SplitLaws
pub mod SplitViews
