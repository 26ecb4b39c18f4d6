pub mod Strings
pub mod OneReadingValues
pub mod OneReading
pub mod TableLaws
pub mod DataText
