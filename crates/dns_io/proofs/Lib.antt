pub mod Loops
mod Tries
