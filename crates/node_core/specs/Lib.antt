pub mod Windows
pub mod Nodes
pub mod Rows
pub mod Standing
pub mod WindowOpening
pub mod WindowClosing
