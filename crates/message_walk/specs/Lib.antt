pub mod Copies
pub mod Places
pub mod Walks
pub mod ErrorTexts
