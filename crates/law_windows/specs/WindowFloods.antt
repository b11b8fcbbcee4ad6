-- The flood of a window: as it opens, and by what has happened in it.
use Rattle.std.specs.Prelude.{◌≡◌, Bool, true, false, fold}
use Rattle.std.specs.declared.option.Option.{Option}
use Rattle.lwb_packets.specs.declared.kind.Kind as Kind
use Rattle.glossy_relay.specs.FloodState.{FloodState, listening}
use Rattle.glossy_relay.specs.Relaying.{after_heard, after_sent}
use Rattle.bus_rules.specs.Cores.{Setup}
use Rattle.bus_rules.specs.Slots.{Message, part_of, opened_slot}
use Rattle.node_core.specs.Rows.{flood_for}
use Rattle.air_log.specs.WindowLogs.{WindowLog, Happening, HeardAt, SentAt}

-- what its node says in it, if it begins the flood
abbrev pub initial_message : Setup → WindowLog → Option Message
initial_message s w = (opened_slot s w.before.frame (part_of w.before.core.plan w.slot) w.before.core).message

-- as it opens by its alarm; a scanning node listens, and the schedule by which its window opens is the first that happens
abbrev pub flood_at_first : Setup → Bool → WindowLog → FloodState
flood_at_first s true w = flood_for s (part_of w.before.core.plan w.slot) w.slot (initial_message s w)
flood_at_first s false w = listening Kind.TheVariants.Schedule w.slot s.sends

abbrev pub after_happening : FloodState → Happening → FloodState
after_happening f (HeardAt t p) = after_heard f p
after_happening f (SentAt t p) = after_sent f

-- it is what all that happened has made of it
abbrev pub WindowHasFlood : Setup → WindowLog → Type 0
WindowHasFlood s w = w.last.flood ≡ fold after_happening (flood_at_first s w.by_alarm w) w.happenings
