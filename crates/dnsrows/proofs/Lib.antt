pub mod ListSteps
pub mod MessageOctets
pub mod Signatures
pub mod SetValues
pub mod SigningSteps
pub mod PlaceSteps
pub mod PairSteps
