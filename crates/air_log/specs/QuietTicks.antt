-- Ticks at which nothing happens at a node.
use Rattle.std.specs.Prelude.{◌≡◌, ℕ, List, [], Bool, false, ◌==◌, nat_lt, Some, None}
use Rattle.std.specs.declared.option.Option.{Option}
use Rattle.radio_model.specs.declared.sending.Sending.{Sending}
use Rattle.scenario_text.specs.ScenarioParts.{ScenarioParts}
use Rattle.air_log.specs.Devices.{Device, OrderedPacket}
use Rattle.air_log.specs.Trails.{Reception, lines_at, ending_at, alarm_is_due}

abbrev pub ends_at : ℕ → Option Sending → Bool
ends_at t None = false
ends_at t (Some x) = x.end == t

abbrev pub ordered_starts_at : ℕ → Option OrderedPacket → Bool
ordered_starts_at t None = false
ordered_starts_at t (Some o) = o.tick == t

-- at tick t no script line of v, no end of a reception or of its transmission, no alarm and no start is due
pub record IsQuiet (s : ScenarioParts) (v : ℕ) (hs : List Reception) (t : ℕ) (d : Device) : Type 0 where
  pub lines : lines_at s v t ≡ []
  pub hearings : ending_at t hs ≡ []
  pub sending : ends_at t d.sending ≡ false
  pub alarm : alarm_is_due t d.alarm ≡ false
  pub start : ordered_starts_at t d.ordered ≡ false

abbrev pub ends_before : ℕ → Reception → Bool
ends_before t h = nat_lt h.end t
