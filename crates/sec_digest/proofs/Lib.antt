mod Base32Unique
mod Blocks
mod Comparing
mod DigitSteps
mod Digits
mod Finishing
mod Groups
mod Lengths
pub mod PutMacs
