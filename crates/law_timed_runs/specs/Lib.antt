pub mod TunedRuns
