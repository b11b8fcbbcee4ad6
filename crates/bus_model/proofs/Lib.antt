pub mod SlotsInTurn
pub mod RoomInRounds
pub mod RanksInTurn
pub mod LinesTold
pub mod LinesAllowed
pub mod FramesInTurn
pub mod OffOutside
pub mod DroppedLines
