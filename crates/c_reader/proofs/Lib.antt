pub mod Answering
mod WorkedTexts
