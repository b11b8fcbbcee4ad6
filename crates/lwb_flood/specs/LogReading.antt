-- Internal: what is kept of the receptions of a log while it is read.
use Rattle.std.specs.Prelude.{◌≡◌, ℕ, ◌≤◌, ◌==◌, if◌then◌else◌, nat_le, List, Contains, length, get_or, set, option_map, Some, None}
use Rattle.std.specs.declared.option.Option.{Option}
use Rattle.lwb_base.specs.declared.limits.TheConstants.{PLACES_BY_ID}
use Rattle.glossy_relay.specs.Relaying.{counter_of}
use Rattle.air_log.specs.declared.entry.Entry.{Entry}
use Rattle.air_log.specs.Entries.{hearings_of, hearing_in}
use Rattle.radio_model.specs.declared.sending.Sending.{Sending}
use Rattle.radio_model.specs.OnAir.{Hearing}
use Rattle.lwb_flood.specs.declared.flood_outcome.FirstHearing.{FirstHearing}

-- v received a transmission with this end and counter, and none that ends before
pub record EndsFirst (hearings : List Hearing) (v : ℕ) (g : FirstHearing) : Type 0 where
  pub sending : Sending
  pub there : Contains hearings (record { node = v; sending = sending })
  pub end : sending.end ≡ g.end
  pub counter : counter_of sending.packet ≡ g.counter
  pub first : (y : Sending) → Contains hearings (record { node = v; sending = y }) → sending.end ≤ y.end

-- what is kept of the receptions of v
abbrev pub IsFirstReception : List Hearing → ℕ → Option FirstHearing → Type 0
IsFirstReception hearings v None = (x : Sending) → Contains hearings (record { node = v; sending = x }) → ⊥
IsFirstReception hearings v (Some g) = EndsFirst hearings v g

-- at the place of each id
pub record AreFirst (air : List Entry) (firsts : List (Option FirstHearing)) : Type 0 where
  pub ids : length firsts ≡ PLACES_BY_ID
  pub each : (v : ℕ) → IsFirstReception (hearings_of air) v (get_or firsts v None)

abbrev pub kept_of : Hearing → ℕ × FirstHearing
kept_of h = (h.node, record { end = h.sending.end; counter = counter_of h.sending.packet })

abbrev pub reception_of_entry : Entry → Option (ℕ × FirstHearing)
reception_of_entry e = option_map kept_of (hearing_in e)

abbrev pub earlier_reception : Option FirstHearing → FirstHearing → FirstHearing
earlier_reception None h = h
earlier_reception (Some g) h = if nat_le g.end h.end then g else h

abbrev pub with_earlier : List (Option FirstHearing) → Option (ℕ × FirstHearing) → List (Option FirstHearing)
with_earlier firsts None = firsts
with_earlier firsts (Some h) = set firsts h.0 (Some (earlier_reception (get_or firsts h.0 None) h.1))

-- the step at which a node accepts: the starting node accepts nothing
abbrev pub step_of : ℕ → List (Option FirstHearing) → ℕ → Option ℕ
step_of start firsts v = if v == start then None else option_map (λ g. g.counter) (get_or firsts v None)
