pub mod FloodReport
pub mod Summary
pub mod DeadlineReport
pub mod CheckReport
pub mod TimesReport
pub mod ReturnReport
pub mod Commands
pub mod Reports
pub mod CommandLine
pub mod Answers
pub mod CommandLaws
pub mod RunsKept
-- what the clauses on runs cite
pub use Rattle.run_report.specs.RunReport
pub use Rattle.run_report.specs.RunsTold
