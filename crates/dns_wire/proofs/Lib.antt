pub mod FieldLaws
pub mod PutLaws
pub mod Rooms
pub mod SinkSteps
