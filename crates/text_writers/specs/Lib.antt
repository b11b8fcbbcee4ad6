pub mod Lines
pub mod HexWords
