mod EqualFields
pub mod TsigData
pub mod TsigNames
pub mod VariableFields
mod WrittenFields
