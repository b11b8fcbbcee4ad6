pub mod Budgets
pub mod Drift
pub mod Zeros
pub mod Floods
pub mod Reference
