pub mod Algorithms
pub mod AlgorithmSets
pub mod Proofs
pub mod KeyForms
pub mod Schemes
pub mod DecodedKeys
pub mod KeptKeys
pub mod ErrorTexts
