pub mod ReportLines
pub mod BusReport
