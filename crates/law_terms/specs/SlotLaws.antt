-- Slot by slot a valid air is the bus's: who sends, who accepts, and the cores round each window.
use Rattle.std.specs.Prelude.{◌≡◌, ℕ, suc, ◌<◌, ◌≤◌, ◌↔◌, List, Contains, true, Some, is_some, length, slice_set}
use Rattle.std.specs.Option.{IfSome}
use Rattle.lwb_base.specs.Messages.{Plan}
use Rattle.lwb_base.specs.declared.limits.TheConstants.{LAST_STEP}
use Rattle.scenario_text.specs.ScenarioParts.{ScenarioParts}
use Rattle.scenario_text.specs.FloodParts.{knows}
use Rattle.radio_model.specs.declared.sending.Sending.{Sending}
use Rattle.radio_model.specs.Hearing.{frame_of_sending, slot_of_sending as slot_byte}
use Rattle.glossy_relay.specs.Relaying.{accepted_of}
use Rattle.bus_rules.specs.Plans.{last_slot}
use Rattle.bus_rules.specs.Slots.{Message}
use Rattle.bus_terms.specs.Flooding.{Sends, Accepts, has}
use Rattle.lwb_member.specs.Said.{bytes_of}
use Rattle.air_log.specs.declared.entry.Entry.{Entry}
use Rattle.air_log.specs.Entries.{sendings_of}
use Rattle.air_log.specs.WindowLogs.{WindowLog}
use Rattle.air_log.specs.Lawful.{trail_in}
use Rattle.bus_rules.specs.States.{StateOn}
use Rattle.bus_terms.specs.HostedRounds.{slot_in, node_before}
use Rattle.bus_terms.specs.Rounds.{round_plan, message_said}
use Rattle.bus_terms.specs.Bus.{state_at}
use Rattle.law_terms.specs.LawfulRuns.{IsLawfulRun}

-- the bus has a round of this rank in this frame, by this plan
pub record IsRound (s : ScenarioParts) (rank f : ℕ) (p : Plan) : Type 0 where
  pub in_run : f < s.frames
  pub hosted : rank < length s.hosts
  pub plan : round_plan s rank f (state_at s f) ≡ Some p

-- o initiates in slot j of that round, and says m
abbrev pub Says : ScenarioParts → ℕ → ℕ → Plan → ℕ → ℕ → Message → Type 0
Says s rank f p j o m = (has (slot_in s rank f p j).flood.initiators o ≡ true) × (message_said ((slot_in s rank f p j).window o) ≡ Some m)

-- a transmission of v in this slot, with this counter, of this message
pub record IsSending (s : ScenarioParts) (air : List Entry) (rank f j v k : ℕ) (m : Message) : Type 0 where
  pub sending : Sending
  pub there : Contains (sendings_of air) sending
  pub node : sending.node ≡ v
  pub channel : sending.rank ≡ rank
  pub frame : frame_of_sending s.profile sending ≡ f
  pub packet : sending.packet ≡ slice_set (bytes_of m j) 2 k

pub record IsWindowOf (s : ScenarioParts) (clocks : ℕ → ℕ → ℕ) (air : List Entry) (rank f j v : ℕ) (w : WindowLog) : Type 0 where
  pub there : Contains (trail_in s clocks air v).made.windows w
  pub frame : w.frame ≡ f
  pub channel : w.rank ≡ rank
  pub slot : w.slot ≡ j

-- a window of v of this slot closed, and had accepted this message first with this counter
pub record IsAcceptance (s : ScenarioParts) (clocks : ℕ → ℕ → ℕ) (air : List Entry) (rank f j v k : ℕ) (m : Message) : Type 0 where
  pub window : WindowLog
  pub here : IsWindowOf s clocks air rank f j v window
  pub closed : is_some window.closed ≡ true
  pub accepted : accepted_of window.last.flood ≡ Some (slice_set (bytes_of m j) 2 k, k)

-- Slot: who sends in a step, and who accepts, is the flood's
pub record IsSlot (s : ScenarioParts) (clocks : ℕ → ℕ → ℕ) (air : List Entry) (rank f : ℕ) (p : Plan) (j : ℕ) : Type 0 where
  pub sends : (v k o : ℕ) (m : Message) → Says s rank f p j o m → k ≤ LAST_STEP
      → Sends (slot_in s rank f p j).flood v k o ↔ IsSending s air rank f j v k m
  pub accepts : (v k o : ℕ) (m : Message) → Says s rank f p j o m → k ≤ LAST_STEP
      → Accepts (slot_in s rank f p j).flood v o k ↔ IsAcceptance s clocks air rank f j v k m

abbrev pub SlotLaw : Type 0
SlotLaw = (s : ScenarioParts) (clocks : ℕ → ℕ → ℕ) (air : List Entry) → IsLawfulRun s clocks air
    → (rank f j : ℕ) (p : Plan) → IsRound s rank f p → j ≤ last_slot p → IsSlot s clocks air rank f p j

-- nothing else is sent: what is sent is the message of an initiator of the slot that its packet names, and its node sends that in the
-- step of its counter in the flood of this slot
pub record IsSaidIn (s : ScenarioParts) (x : Sending) : Type 0 where
  pub plan : Plan
  pub round : IsRound s x.rank (frame_of_sending s.profile x) plan
  pub slot : slot_byte x ≤ last_slot plan
  pub origin : ℕ
  pub message : Message
  pub said : Says s x.rank (frame_of_sending s.profile x) plan (slot_byte x) origin message
  pub counter : ℕ
  pub few : counter ≤ LAST_STEP
  pub packet : x.packet ≡ slice_set (bytes_of message (slot_byte x)) 2 counter
  pub sends : Sends (slot_in s x.rank (frame_of_sending s.profile x) plan (slot_byte x)).flood x.node counter origin

abbrev pub SentLaw : Type 0
SentLaw = (s : ScenarioParts) (clocks : ℕ → ℕ → ℕ) (air : List Entry) → IsLawfulRun s clocks air
    → (x : Sending) → Contains (sendings_of air) x → IsSaidIn s x

-- the cores round a window are the bus's before and after its slot
pub record IsAligned (s : ScenarioParts) (v : ℕ) (w : WindowLog) : Type 0 where
  pub plan : Plan
  pub round : IsRound s w.rank w.frame plan
  pub slot : w.slot ≤ last_slot plan
  pub before : StateOn w.before.core ≡ node_before s w.rank w.frame plan w.slot v
  pub after : IfSome w.closed (λ c. StateOn c.after.core ≡ node_before s w.rank w.frame plan (suc w.slot) v)

abbrev pub CoresLaw : Type 0
CoresLaw = (s : ScenarioParts) (clocks : ℕ → ℕ → ℕ) (air : List Entry) → IsLawfulRun s clocks air
    → (v : ℕ) (w : WindowLog) → knows s.nodes v ≡ true → Contains (trail_in s clocks air v).made.windows w → IsAligned s v w

-- a node has the windows that open by an alarm which it has in the bus
pub record HasWindow (s : ScenarioParts) (clocks : ℕ → ℕ → ℕ) (air : List Entry) (rank f j v : ℕ) : Type 0 where
  pub window : WindowLog
  pub here : IsWindowOf s clocks air rank f j v window
  pub by_alarm : window.by_alarm ≡ true

abbrev pub WindowsLaw : Type 0
WindowsLaw = (s : ScenarioParts) (clocks : ℕ → ℕ → ℕ) (air : List Entry) → IsLawfulRun s clocks air
    → (rank f j v : ℕ) (p : Plan) → IsRound s rank f p → j ≤ last_slot p → knows s.nodes v ≡ true
    → (is_some ((slot_in s rank f p j).window v) ≡ true) ↔ HasWindow s clocks air rank f j v
