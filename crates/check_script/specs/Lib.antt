pub mod Script
pub mod Answers
pub mod Taking
pub mod Text
pub mod Session
