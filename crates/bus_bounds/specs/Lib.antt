pub mod PowerLines
pub mod BoundFindings
pub mod JoinFindings
pub mod JoinRounds
pub mod KeptJoins
pub mod KeptBounds
