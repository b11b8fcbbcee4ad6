pub mod Clocks
pub mod Jumps
pub mod JumpLaw
pub mod Rates
pub mod RatesLaw
pub mod Segments
pub mod ClockReadings
pub mod KeptLaw
