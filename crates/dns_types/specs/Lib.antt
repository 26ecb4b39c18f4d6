pub mod ClassNumbers
pub mod Codes
pub mod TypeNumbers
pub mod TypeSets
pub mod TypeWalks
pub mod TypeReaders
