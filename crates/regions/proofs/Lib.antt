pub mod AddressLaws
mod Examples
pub mod TreeLaws
