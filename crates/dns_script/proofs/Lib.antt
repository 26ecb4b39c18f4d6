mod ScriptLines
mod Outcomes
pub mod ReadOrFaulty
