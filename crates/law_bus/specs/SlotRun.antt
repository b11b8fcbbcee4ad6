-- What is on the air in a slot of a round, as the record of a flood.
use Rattle.std.specs.Prelude.{◌≡◌, ℕ, ◌+◌, List, [], ◌∷◌, Bool, ◌&&◌, ◌==◌, Some, None, length, filter, find}
use Rattle.std.specs.declared.option.Option.{Option}
use Rattle.tick_clock.specs.Clocks.{due}
use Rattle.time_reference.specs.Budgets.{budget_of}
use Rattle.time_reference.specs.Zeros.{tick_at_offset, starting_offset}
use Rattle.lwb_base.specs.Messages.{Plan}
use Rattle.lwb_base.specs.Profile.{Numbers, airtime}
use Rattle.bus_rules.specs.Slots.{Message}
use Rattle.lwb_member.specs.Places.{kind_for}
use Rattle.lwb_member.specs.Said.{bytes_of}
use Rattle.scenario_text.specs.ScenarioParts.{ScenarioParts}
use Rattle.radio_model.specs.declared.sending.Sending.{Sending}
use Rattle.radio_model.specs.OnAir.{Hearing}
use Rattle.radio_model.specs.Hearing.{frame_of_sending, slot_of_sending}
use Rattle.air_log.specs.declared.entry.Entry.{Entry}
use Rattle.air_log.specs.Entries.{sendings_of, hearings_of}
use Rattle.air_log.specs.Lawful.{trail_in}
use Rattle.air_log.specs.NodeEvents.{Event}
use Rattle.air_log.specs.WindowLogs.{WindowLog}
use Rattle.law_windows.specs.WindowParts.{TakesPart}
use Rattle.lwb_flood.specs.FloodRun.{Run}
use Rattle.bus_terms.specs.Rounds.{Slot, message_said}
use Rattle.bus_terms.specs.HostedRounds.{slot_in}
use Rattle.law_terms.specs.SlotLaws.{IsWindowOf}

-- a transmission is of this frame, channel and slot
abbrev pub is_sending_of_slot : Numbers → ℕ → ℕ → ℕ → Sending → Bool
is_sending_of_slot p rank f j x = (x.rank == rank) && ((frame_of_sending p x == f) && (slot_of_sending x == j))

-- and so is a window
abbrev pub is_window_of_slot : ℕ → ℕ → ℕ → WindowLog → Bool
is_window_of_slot rank f j w = (w.rank == rank) && ((w.frame == f) && (w.slot == j))

-- what is said, in bytes
abbrev pub bytes_said : ℕ → Option Message → List ℕ
bytes_said j None = []
bytes_said j (Some m) = bytes_of m j

-- all that initiate say as much; where none does, the length is that of the shortest packet
abbrev pub size_by : (ℕ → ℕ) → List ℕ → ℕ
size_by size [] = 7
size_by size (o ∷ os) = size o

-- who initiates starts where its clock comes to the start of the slot, by the zero with which its window opened
abbrev pub start_in : Numbers → (ℕ → ℕ) → Option WindowLog → ℕ
start_in p clock None = 0
start_in p clock (Some w) = tick_at_offset clock w.after.zero (starting_offset p w.slot)

-- slot j of the round by this plan, where the nodes have these events
abbrev pub run_of_slot : ScenarioParts → (ℕ → ℕ → ℕ) → List Entry → ℕ → ℕ → Plan → ℕ → (ℕ → List Event) → Run
run_of_slot s clocks air rank f p j events =
    let slot : Slot = slot_in s rank f p j in
    let says = λ (o : ℕ). bytes_said j (message_said (slot.window o)) in
    record {
      setting = slot.flood;
      kind = kind_for slot.part;
      slot = j;
      rank = rank;
      message = says;
      starts = λ o. start_in s.profile (clocks o) (find (is_window_of_slot rank f j) (trail_in s clocks air o).made.windows);
      air = airtime s.profile (size_by (λ o. length (says o)) slot.flood.initiators);
      turn = s.profile.turn;
      delta = s.profile.delta;
      spread = (budget_of s.profile).contenders;
      sendings = filter (is_sending_of_slot s.profile rank f j) (sendings_of air);
      hearings = filter (λ (h : Hearing). is_sending_of_slot s.profile rank f j h.sending) (hearings_of air);
      events = events;
      relay_start = λ v e. due (clocks v) (clocks v e + s.profile.turn);
    }

-- the node takes part by this window with these events
pub record IsPlayed (s : ScenarioParts) (clocks : ℕ → ℕ → ℕ) (air : List Entry) (v : ℕ) (w : WindowLog) (events : List Event) : Type 0 where
  pub part : TakesPart s clocks air v w
  pub same : part.has.events ≡ events

-- the events of each node are those of its window of the slot, and who has none has no events
pub record AreEvents (s : ScenarioParts) (clocks : ℕ → ℕ → ℕ) (air : List Entry) (rank f j : ℕ) (events : ℕ → List Event) : Type 0 where
  pub by_window : (v : ℕ) (w : WindowLog) → IsWindowOf s clocks air rank f j v w → IsPlayed s clocks air v w (events v)
  pub without : (v : ℕ) → ((w : WindowLog) → IsWindowOf s clocks air rank f j v w → ⊥) → events v ≡ []
