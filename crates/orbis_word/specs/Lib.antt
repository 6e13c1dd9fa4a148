pub mod Reading
pub mod Decoding
pub mod Fields
pub mod Printing
pub mod Table
