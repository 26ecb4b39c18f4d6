pub mod Taken
pub mod TextLines
pub mod OneSession
mod ScriptsRead
