pub mod ImageFaults
pub mod ImageLaws
pub mod ImageTable
pub mod ReadParts
