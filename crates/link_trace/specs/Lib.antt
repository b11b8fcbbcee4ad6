pub mod Passes
pub mod Order
pub mod Sealed
pub mod Starts
pub mod Sides
pub mod Masks
