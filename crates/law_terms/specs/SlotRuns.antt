-- What is on the air in a slot, as a run of the theorem on floods.
use Rattle.std.specs.Prelude.{◌≡◌, ℕ, ◌≤◌, ◌↔◌, List, Contains, true, is_some}
use Rattle.lwb_base.specs.Messages.{Plan}
use Rattle.scenario_text.specs.ScenarioParts.{ScenarioParts}
use Rattle.radio_model.specs.declared.sending.Sending.{Sending}
use Rattle.radio_model.specs.Hearing.{frame_of_sending, slot_of_sending as slot_byte}
use Rattle.glossy_relay.specs.Relaying.{accepted_of}
use Rattle.bus_rules.specs.Plans.{last_slot}
use Rattle.bus_rules.specs.Slots.{Message}
use Rattle.lwb_member.specs.Said.{bytes_of}
use Rattle.lwb_member.specs.Places.{kind_for}
use Rattle.air_log.specs.declared.entry.Entry.{Entry}
use Rattle.air_log.specs.Entries.{sendings_of, HasHeardEntry}
use Rattle.air_log.specs.WindowLogs.{WindowLog}
use Rattle.lwb_flood.specs.FloodRun.{Run, WasHeard, IsParticipant}
use Rattle.lwb_flood.specs.FloodBySteps.{IsFloodBySteps, flood_at_end}
use Rattle.law_terms.specs.LawfulRuns.{IsLawfulRun}
use Rattle.bus_terms.specs.HostedRounds.{slot_in}
use Rattle.law_terms.specs.SlotLaws.{IsRound, IsWindowOf, Says}
use Rattle.law_terms.specs.SlotSteps.{IsSlotStart}

-- v has a window of the slot that has closed
pub record HasClosed (s : ScenarioParts) (clocks : ℕ → ℕ → ℕ) (air : List Entry) (rank f j v : ℕ) : Type 0 where
  pub window : WindowLog
  pub here : IsWindowOf s clocks air rank f j v window
  pub closed : is_some window.closed ≡ true

-- its setting is the bus's, its transmissions are all of this frame, channel and slot, and each window's flood at the end is the fold of its events
pub record IsRunOf (s : ScenarioParts) (clocks : ℕ → ℕ → ℕ) (air : List Entry) (rank f : ℕ) (p : Plan) (j : ℕ) (r : Run) : Type 0 where
  pub setting : r.setting ≡ (slot_in s rank f p j).flood
  pub slot : r.slot ≡ j
  pub channel : r.rank ≡ rank
  pub kind : r.kind ≡ kind_for (slot_in s rank f p j).part
  pub message : (o : ℕ) (m : Message) → Says s rank f p j o m → r.message o ≡ bytes_of m j
  pub sendings : (x : Sending) → Contains r.sendings x
      ↔ (Contains (sendings_of air) x × (x.rank ≡ rank) × (frame_of_sending s.profile x ≡ f) × (slot_byte x ≡ j))
  pub hearings : (v : ℕ) (x : Sending) → IsParticipant r v → WasHeard r v x ↔ (HasHeardEntry air v x × Contains r.sendings x)
  pub flood : (v : ℕ) (w : WindowLog) → IsWindowOf s clocks air rank f j v w → is_some w.closed ≡ true → flood_at_end r v ≡ w.last.flood
  -- who has a window takes part, and who has accepted has a closed one
  pub part : (v : ℕ) (w : WindowLog) → IsWindowOf s clocks air rank f j v w → IsParticipant r v
  pub closes : (v : ℕ) → IsParticipant r v → is_some (accepted_of (flood_at_end r v)) ≡ true → HasClosed s clocks air rank f j v

abbrev pub RunsLaw : Type 0
RunsLaw = (s : ScenarioParts) (clocks : ℕ → ℕ → ℕ) (air : List Entry) → IsLawfulRun s clocks air
    → (rank f j : ℕ) (p : Plan) → IsRound s rank f p → j ≤ last_slot p → IsSlotStart s clocks air rank f p j
    → (r : Run) × IsRunOf s clocks air rank f p j r × IsFloodBySteps r
