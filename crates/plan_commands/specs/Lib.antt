pub mod Commands
pub mod DrawnTexts
pub mod SeedTexts
pub mod Reports
pub mod TextsDue
pub mod Answers
pub mod CommandLaws
