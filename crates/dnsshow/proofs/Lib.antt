pub mod Gathered
pub mod JoinedSteps
pub mod KeyParts
pub mod Listings
