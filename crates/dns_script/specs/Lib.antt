pub mod CommandLine
pub mod Sessions
pub mod Faults
pub mod LineErrors
pub mod OneWord
pub mod Scripts
pub mod ScriptSessions
pub mod ErrorTexts
