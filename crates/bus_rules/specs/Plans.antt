-- The slots of a round, by its plan.
use Rattle.std.specs.Prelude.{ℕ, ◌+◌, ◌==◌, if◌then◌else◌, length}
use Rattle.lwb_base.specs.Messages.{Plan, Schedule}

-- the contention slots of a round whose schedule names this number; one where none is named
abbrev pub slots_named : ℕ → ℕ
slots_named contend = if contend == 0 then 1 else contend

-- slot 0 opens the round, a data slot for each owner follows from 1 on, then the contention slots, and the last closes it
abbrev pub last_with : ℕ → ℕ → ℕ
last_with owners contend = owners + slots_named contend + 1

abbrev pub contention_slots : Plan → ℕ
contention_slots p = slots_named p.contend

abbrev pub last_slot : Plan → ℕ
last_slot p = last_with (length p.owners) p.contend

-- the schedule that opens the round of a plan
abbrev pub opening : Plan → Schedule
opening p = record { plan = p; gap = 0 }
