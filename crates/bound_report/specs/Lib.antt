pub mod LineNumbers
pub mod BoundLines
