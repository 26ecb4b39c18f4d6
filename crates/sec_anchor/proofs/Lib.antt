pub mod LineSteps
pub mod KeyLists
