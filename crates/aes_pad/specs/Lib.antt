pub mod Cipher
pub mod Field
pub mod KeptKeys
pub mod Pads
