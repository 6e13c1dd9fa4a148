mod EdgeExamples
mod Examples
mod Fronts
mod NeverFailsExamples
mod Pieces
