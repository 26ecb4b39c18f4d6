pub mod Tokens
pub mod Ttls
pub mod ErrorTexts
