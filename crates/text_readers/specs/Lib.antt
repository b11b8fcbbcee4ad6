pub mod LineEnds
pub mod FaultNames
pub mod Faults
pub mod Words
pub mod Reading
pub mod Divisions
pub mod Hex
