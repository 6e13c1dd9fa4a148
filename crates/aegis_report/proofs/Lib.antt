mod DigitTexts
mod Examples
