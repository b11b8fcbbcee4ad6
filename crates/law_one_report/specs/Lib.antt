pub mod OneReport
pub mod OnePlanReport
