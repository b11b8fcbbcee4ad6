-- The gap of a schedule.
use Rattle.std.specs.Prelude.{◌≡◌, ℕ, List, Some}
use Rattle.lwb_base.specs.Messages.{Schedule}
use Rattle.schedule_codec.specs.Reading.{schedule_of}

-- the bytes spell a schedule with this gap
abbrev pub IsGapOf : List ℕ → ℕ → Type 0
IsGapOf bytes gap = (schedule : Schedule) × (schedule_of bytes ≡ Some schedule) × (schedule.gap ≡ gap)
