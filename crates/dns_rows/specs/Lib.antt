pub mod Refusals
pub mod Rows
pub mod CallWords
pub mod KeyWords
pub mod CallTexts
