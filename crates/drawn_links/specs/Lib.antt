pub mod Coins
pub mod Seeds
pub mod Ratios
pub mod RatioTables
pub mod DrawnLosses
pub mod Drawings
