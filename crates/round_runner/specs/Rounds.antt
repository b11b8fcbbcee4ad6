-- The slots of one round: how many there are, what each is for, and when its window opens and closes.
use Rattle.std.specs.Prelude.{ℕ, ◌+◌, ◌||◌, ◌==◌, nat_le, if◌then◌else◌}
use Rattle.lwb_base.specs.Profile.{Numbers}
use Rattle.lwb_packets.specs.declared.kind.Kind.{Kind}
use Rattle.lwb_packets.specs.declared.kind.Kind.TheVariants.{Schedule, Payload, Request}
use Rattle.time_reference.specs.Reference.{RoundTimes, slot_time, stopped}
use Rattle.bus_rules.specs.Plans.{last_with}
use Rattle.round_runner.specs.declared.window.Window.{Window}

-- when its slots begin, from a window's opening to the initiator's start and to its closing, the count of owners, and the
-- number of contention slots that its schedule names (0 for none)
pub record Round : Type 0 where
  pub times : RoundTimes
  pub listen : ℕ
  pub close : ℕ
  pub owners : ℕ
  pub contend : ℕ

abbrev pub round_of : Numbers → RoundTimes → ℕ → ℕ → Round
round_of p times owners contend = record { times = times; listen = p.listen; close = p.close; owners = owners; contend = contend }

-- the slot that closes it
abbrev pub last_slot_of_round : Round → ℕ
last_slot_of_round r = last_with r.owners r.contend

abbrev pub kind_of_slot : Round → ℕ → Kind
kind_of_slot r j = if (j == 0) || (j == last_slot_of_round r) then Schedule else if nat_le j r.owners then Payload else Request

-- the window of slot j: it opens where the slot begins
abbrev pub window_at : RoundTimes → ℕ → ℕ → ℕ → Window
window_at times j listen close = record {
  begin = slot_time times j;
  start = stopped (slot_time times j + listen);
  until = stopped (slot_time times j + close);
}

abbrev pub window_of_slot : Round → ℕ → Window
window_of_slot r j = window_at r.times j r.listen r.close
