mod WorkedReports
mod WorkedJoins
