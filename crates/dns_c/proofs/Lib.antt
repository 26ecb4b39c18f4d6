pub mod TextLengths
pub mod WireNames
pub mod PlacesPut
pub mod ChainsKept
