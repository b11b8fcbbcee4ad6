-- Which logs are safe. The frame of a transmission is that of its start, and its slot and counter are bytes of its packet.
use Rattle.std.specs.Prelude.{◌≡◌, ◌≢◌, ⊤, ℕ, ◌+◌, ◌<◌, ◌≤◌, List, Bool, true, false, ◌&&◌, Some, None, Contains, AllPairs, slice_get}
use Rattle.std.specs.declared.option.Option.{Option}
use Rattle.tick_clock.specs.Clocks.{Near}
use Rattle.lwb_base.specs.Profile.{Numbers}
use Rattle.lwb_base.specs.Messages.{Schedule, code}
use Rattle.lwb_packets.specs.Body.{body}
use Rattle.lwb_packets.specs.Requests.{is_request}
use Rattle.schedule_codec.specs.Reading.{is_schedule}
use Rattle.bus_rules.specs.declared.part.Part.TheVariants.{Data as DataSlot, Contention}
use Rattle.bus_rules.specs.declared.tune.Tune.{Tune}
use Rattle.bus_rules.specs.Tuning.{hosts}
use Rattle.bus_rules.specs.Slots.{Message, ScheduleOf, DataOf, RequestOf, part_of}
use Rattle.lwb_member.specs.Said.{message_of}
use Rattle.scenario_text.specs.ScenarioParts.{ScenarioParts}
use Rattle.bus_rules.specs.declared.act.Act.TheVariants.{Off}
use Rattle.scenario_text.specs.declared.script.ScriptLine.{ScriptLine}
use Rattle.radio_model.specs.declared.sending.Sending.{Sending}
use Rattle.radio_model.specs.Hearing.{Meets, frame_of_sending, slot_of_sending, counter_of_sending}
use Rattle.air_log.specs.declared.entry.Entry.{Entry}
use Rattle.air_log.specs.Entries.{sendings_of, HasHeardEntry}
use Rattle.air_log.specs.Lawful.{heard_by}
use Rattle.air_log.specs.Trails.{frame_start, tune_when}

-- both are of one channel, frame and slot
pub record SameSlot (p : Numbers) (x y : Sending) : Type 0 where
  pub channel : x.rank ≡ y.rank
  pub frame : frame_of_sending p x ≡ frame_of_sending p y
  pub slot : slot_of_sending x ≡ slot_of_sending y

-- and of one counter
pub record SameStep (p : Numbers) (x y : Sending) : Type 0 where
  pub slot : SameSlot p x y
  pub counter : counter_of_sending x ≡ counter_of_sending y

-- within one frame: a transmission ends before the next frame starts
abbrev pub WithinOneFrame : ScenarioParts → List Entry → Type 0
WithinOneFrame s air = (x : Sending) → Contains (sendings_of air) x → x.end < frame_start s (frame_of_sending s.profile x + 1)

-- no overlap: two that meet on a channel are of one frame, slot and counter
abbrev pub NoOverlap : ScenarioParts → List Entry → Type 0
NoOverlap s air =
    (x y : Sending) → Contains (sendings_of air) x → Contains (sendings_of air) y
    → x.rank ≡ y.rank → Meets x y → SameStep s.profile x y

-- they differ in no byte but the counter, and where that is the same they start together
pub record Alike (p : Numbers) (x y : Sending) : Type 0 where
  pub bytes : body x.packet ≡ body y.packet
  pub together : counter_of_sending x ≡ counter_of_sending y → Near x.start y.start p.delta

-- same but for the counter: two of one channel, frame and slot are alike, unless both are requests
abbrev pub SameButForCounter : ScenarioParts → List Entry → Type 0
SameButForCounter s air =
    (x y : Sending) → Contains (sendings_of air) x → Contains (sendings_of air) y
    → SameSlot s.profile x y → (is_request x.packet && is_request y.packet) ≡ false → Alike s.profile x y

-- x begins a flood, and is no request
pub record Begins (x : Sending) : Type 0 where
  pub first : counter_of_sending x ≡ 0
  pub no_request : is_request x.packet ≡ false

-- one initiator: at most one transmission that is no request begins the flood of a slot, and a schedule is begun by the host of
-- its channel. Where requests may begin is said below, by silence
pub record OneInitiator (s : ScenarioParts) (air : List Entry) : Type 0 where
  pub one : AllPairs (λ x y. SameSlot s.profile x y → Begins x → Begins y → ⊥) (sendings_of air)
  pub host : (x : Sending) → Contains (sendings_of air) x
      → counter_of_sending x ≡ 0 → is_schedule x.packet ≡ true → slice_get s.hosts x.rank ≡ Some x.node

-- no off line of v is in the frames g + 1 to f
abbrev pub StaysOn : ScenarioParts → ℕ → ℕ → ℕ → Type 0
StaysOn s v g f = (l : ScriptLine) → Contains s.script l → l.node ≡ v → g < l.frame → l.frame ≤ f → l.act ≢ Off

-- what may be said in slot j of the round of a schedule: data by its j-th owner, and a request in a contention slot after an opening
abbrev pub Allows : Schedule → ℕ → Option Message → Type 0
Allows y j (Some (DataOf d)) = part_of y.plan j ≡ DataSlot (code d.node d.stream)
Allows y j (Some (RequestOf a)) = (y.gap ≡ 0) × (i : ℕ) × (part_of y.plan j ≡ Contention i)
Allows y j (Some (ScheduleOf z)) = ⊤
Allows y j None = ⊤

-- the sender of x received a schedule of its channel for this frame, which allows x, and did not go off since
pub record HasWord (s : ScenarioParts) (air : List Entry) (x : Sending) : Type 0 where
  pub heard : Sending
  pub schedule : Schedule
  pub there : HasHeardEntry air x.node heard
  pub says : message_of heard.packet ≡ Some (ScheduleOf schedule)
  pub channel : heard.rank ≡ x.rank
  pub named : schedule.plan.rank ≡ x.rank
  pub due : frame_of_sending s.profile heard + schedule.gap ≡ frame_of_sending s.profile x
  pub stays_on : StaysOn s x.node (frame_of_sending s.profile heard) (frame_of_sending s.profile x)
  pub allows : Allows schedule (slot_of_sending x) (message_of x.packet)

-- a node that is off hosts nothing
abbrev pub is_hosting : Option Tune → Bool
is_hosting None = false
is_hosting (Some tune) = hosts tune

-- whether the sender of x hosts when x starts, by its trail
abbrev pub sender_hosts : ScenarioParts → (ℕ → ℕ → ℕ) → List Entry → Sending → Bool
sender_hosts s clocks air x = is_hosting (tune_when s x.node (clocks x.node) (heard_by air x.node) x.start)

-- silence: who begins a flood that is no schedule has received that it may, unless it hosts and does not ask. So two that begin
-- the flood of one slot both ask, and in a contention slot: in a data slot at most one node initiates
abbrev pub Silence : ScenarioParts → (ℕ → ℕ → ℕ) → List Entry → Type 0
Silence s clocks air =
    (x : Sending) → Contains (sendings_of air) x
    → counter_of_sending x ≡ 0 → is_schedule x.packet ≡ false
    → (is_request x.packet ≡ false → sender_hosts s clocks air x ≡ false) → HasWord s air x

pub record Safe (s : ScenarioParts) (clocks : ℕ → ℕ → ℕ) (air : List Entry) : Type 0 where
  pub within_one_frame : WithinOneFrame s air
  pub no_overlap : NoOverlap s air
  pub same_but_for_counter : SameButForCounter s air
  pub one_initiator : OneInitiator s air
  pub silence : Silence s clocks air
