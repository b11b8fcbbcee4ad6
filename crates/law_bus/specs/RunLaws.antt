-- Laws of the runs of slots, each over every slot of every round of a valid run before which the nodes are the bus's.
use Rattle.std.specs.Prelude.{◌≡◌, ◌↔◌, ℕ, ◌≤◌, List, Contains, true}
use Rattle.lwb_base.specs.Messages.{Plan}
use Rattle.bus_rules.specs.Plans.{last_slot}
use Rattle.bus_rules.specs.Slots.{Message}
use Rattle.lwb_member.specs.Said.{bytes_of}
use Rattle.lwb_member.specs.Places.{kind_for}
use Rattle.scenario_text.specs.ScenarioParts.{ScenarioParts}
use Rattle.scenario_text.specs.FloodParts.{knows}
use Rattle.radio_model.specs.declared.sending.Sending.{Sending}
use Rattle.radio_model.specs.Hearing.{TunedThrough, frame_of_sending, slot_of_sending}
use Rattle.air_log.specs.declared.entry.Entry.{Entry}
use Rattle.air_log.specs.Entries.{sendings_of, HasHeardEntry}
use Rattle.air_log.specs.HearsAir.{scene_of}
use Rattle.air_log.specs.NodeEvents.{Event}
use Rattle.air_log.specs.WindowLogs.{WindowLog}
use Rattle.lwb_flood.specs.FloodRun.{Run, WasHeard, IsParticipant, HasInitiators, HasSendings, HasEvents, HearsByRule}
use Rattle.lwb_flood.specs.RunOnAir.{IsPart}
use Rattle.law_terms.specs.LawfulRuns.{IsLawfulRun}
use Rattle.bus_terms.specs.HostedRounds.{slot_in}
use Rattle.law_terms.specs.SlotLaws.{IsRound, IsWindowOf, Says}
use Rattle.law_terms.specs.SlotRuns.{IsRunOf}
use Rattle.law_terms.specs.SlotSteps.{IsSlotStart}
use Rattle.law_bus.specs.SlotRun.{AreEvents, run_of_slot}

-- of each such slot, whatever the events of its nodes
abbrev pub OfSlots : ((s : ScenarioParts) → (ℕ → ℕ → ℕ) → List Entry → ℕ → ℕ → Plan → ℕ → (ℕ → List Event) → Type 0) → Type 0
OfSlots Is = (s : ScenarioParts) (clocks : ℕ → ℕ → ℕ) (air : List Entry) → IsLawfulRun s clocks air
    → (rank f j : ℕ) (p : Plan) → IsRound s rank f p → j ≤ last_slot p → IsSlotStart s clocks air rank f p j
    → (events : ℕ → List Event) → Is s clocks air rank f p j events

-- who takes part is a node, and each window that it has in the frame is of the rank
pub record IsOfRank (s : ScenarioParts) (clocks : ℕ → ℕ → ℕ) (air : List Entry) (rank f : ℕ) (r : Run) : Type 0 where
  pub known : (v : ℕ) → IsParticipant r v → knows s.nodes v ≡ true
  pub rank_is : (v i k : ℕ) (w : WindowLog) → IsParticipant r v → IsWindowOf s clocks air i f k v w → i ≡ rank

abbrev pub PartiesLaw : Type 0
PartiesLaw = OfSlots (λ s clocks air rank f p j events. IsOfRank s clocks air rank f (run_of_slot s clocks air rank f p j events))

-- nothing else on the air matters for it
abbrev pub PartLaw : Type 0
PartLaw = OfSlots (λ s clocks air rank f p j events.
    IsPart (scene_of s.profile s.trace air) (run_of_slot s clocks air rank f p j events))

-- so its nodes receive by its rule
abbrev pub RuleLaw : Type 0
RuleLaw = OfSlots (λ s clocks air rank f p j events.
    HearsByRule (run_of_slot s clocks air rank f p j events) (TunedThrough (scene_of s.profile s.trace air)))

-- it is the bus's flood, with all transmissions of its slot and what was received of them
pub record IsOfBus (s : ScenarioParts) (air : List Entry) (rank f : ℕ) (p : Plan) (j : ℕ) (r : Run) : Type 0 where
  pub setting : r.setting ≡ (slot_in s rank f p j).flood
  pub slot : r.slot ≡ j
  pub channel : r.rank ≡ rank
  pub kind : r.kind ≡ kind_for (slot_in s rank f p j).part
  pub message : (o : ℕ) (m : Message) → Says s rank f p j o m → r.message o ≡ bytes_of m j
  pub sendings : (x : Sending) → Contains r.sendings x
      ↔ (Contains (sendings_of air) x × (x.rank ≡ rank) × (frame_of_sending s.profile x ≡ f) × (slot_of_sending x ≡ j))
  pub hearings : (v : ℕ) (x : Sending) → WasHeard r v x ↔ (HasHeardEntry air v x × Contains r.sendings x)

abbrev pub BusLaw : Type 0
BusLaw = OfSlots (λ s clocks air rank f p j events. IsOfBus s air rank f p j (run_of_slot s clocks air rank f p j events))

-- each slot has events for its nodes
abbrev pub EventsLaw : Type 0
EventsLaw = (s : ScenarioParts) (clocks : ℕ → ℕ → ℕ) (air : List Entry) → IsLawfulRun s clocks air
    → (rank f j : ℕ) (p : Plan) → IsRound s rank f p → (events : ℕ → List Event) × AreEvents s clocks air rank f j events

-- with these events of its nodes, they are all that each receives and sends in it
abbrev pub HappenedLaw : Type 0
HappenedLaw = OfSlots (λ s clocks air rank f p j events. AreEvents s clocks air rank f j events
    → HasEvents (run_of_slot s clocks air rank f p j events))

-- with these events of its nodes, initiators say packets of the slot that differ in more than the counter, and start together
abbrev pub InitiatorsLaw : Type 0
InitiatorsLaw = OfSlots (λ s clocks air rank f p j events. AreEvents s clocks air rank f j events
    → HasInitiators (run_of_slot s clocks air rank f p j events))

-- with counter 0 they send, and with another exactly who relays
abbrev pub SendingsLaw : Type 0
SendingsLaw = OfSlots (λ s clocks air rank f p j events. AreEvents s clocks air rank f j events
    → HasSendings (run_of_slot s clocks air rank f p j events))

-- who has a window in the slot takes part in it
abbrev pub WindowsTakePartLaw : Type 0
WindowsTakePartLaw = OfSlots (λ s clocks air rank f p j events. (v : ℕ) (w : WindowLog) → IsWindowOf s clocks air rank f j v w
    → IsParticipant (run_of_slot s clocks air rank f p j events) v)

-- the floods of its nodes end as their windows do
abbrev pub RecordsLaw : Type 0
RecordsLaw = OfSlots (λ s clocks air rank f p j events. AreEvents s clocks air rank f j events
    → IsRunOf s clocks air rank f p j (run_of_slot s clocks air rank f p j events))
