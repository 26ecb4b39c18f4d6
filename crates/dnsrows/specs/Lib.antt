pub mod Scheme
pub mod Scripts
pub mod Messages
pub mod Covering
pub mod Pairs
pub mod Signing
pub mod Transactions
pub mod Answers
