pub mod Slices
pub mod CopySteps
pub mod RecordSteps
pub mod WalkSteps
pub mod RecordsKnown
