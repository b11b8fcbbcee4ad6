pub mod DrawnScenarios
pub mod KeptLosses
pub mod FloodLosses
