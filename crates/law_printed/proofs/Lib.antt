-- for this crate alone
mod PlainBytes
mod PrintedLines
mod PrintedReports
mod PrintedCalls
mod WorkedRun
