pub mod Anchors
pub mod AnswersWritten
pub mod Refusals
pub mod Requests
pub mod Sets
pub mod Steps
pub mod Walks
pub mod Written
