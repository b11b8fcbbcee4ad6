pub mod FateLines
pub mod SampleLines
