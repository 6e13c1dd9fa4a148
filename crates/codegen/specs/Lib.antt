pub mod EmitFaults
pub mod EmittedImage
pub mod ImageCode
pub mod Numbers
pub mod OpInstructions
pub mod SoundImages
