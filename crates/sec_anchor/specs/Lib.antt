pub mod Anchors
pub mod AnchorTokens
pub mod Entries
pub mod Lines
pub mod ErrorTexts
