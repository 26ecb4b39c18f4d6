pub mod Units
pub mod Gaps
pub mod Steps
pub mod Taking
pub mod Groups
