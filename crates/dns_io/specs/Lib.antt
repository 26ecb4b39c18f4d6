pub mod Counts
pub mod Interruptions
pub mod Memory
pub mod Standard
pub mod Status
pub mod Transfer
pub mod ErrorTexts
