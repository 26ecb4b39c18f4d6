pub mod RowSteps
pub mod TextSteps
pub mod KeyValues
