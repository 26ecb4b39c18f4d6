pub mod HexText
pub mod Words
