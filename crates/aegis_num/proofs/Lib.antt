mod NameRooms
mod OperatorExamples
