pub mod Arguments
pub mod KeysAndNames
pub mod Answered
pub mod MessageRecords
pub mod Transactions
