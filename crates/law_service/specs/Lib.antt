pub mod Reach
pub mod DataService
pub mod ScheduleService
pub mod RequestService
pub mod FirstSlots
pub mod Contenders
