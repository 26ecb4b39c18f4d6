pub mod RDataTable
pub mod FieldChecks
pub mod PlainData
pub mod RData
pub mod Texts
pub mod OneReading
pub mod DataText
