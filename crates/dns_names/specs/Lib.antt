pub mod Names
pub mod NameLaws
pub mod NameWriting
pub mod Places
pub mod NameText
pub mod PointerCache
pub mod LabelReading
pub mod Skipping
