pub mod ClockLists
pub mod StatedClocks
pub mod NodeRates
