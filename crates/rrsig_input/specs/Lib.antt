pub mod Rooms
pub mod SignedSets
pub mod ErrorTexts
