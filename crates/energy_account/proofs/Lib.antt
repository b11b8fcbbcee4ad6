mod CountedLines
mod SummedTimes
pub mod AccountLines
pub mod Apart
pub mod FirstRoundEnergy
pub mod ReadOff
pub mod WindowCharges
