pub mod Stamps
pub mod StampLaws
pub mod Words
pub mod Reading
pub mod Stamping
pub mod StampErrors
pub mod Gaps
