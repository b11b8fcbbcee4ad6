-- When a packet that waits in the queue of its stream is delivered.
use Rattle.std.specs.Prelude.{◌≡◌, ◌≢◌, ◌<◌, ◌≤◌, ◌+◌, ◌-◌, ◌*◌, ◌==◌, ℕ, List, Bool, true, false, Some, slice_get, Contains}
use Rattle.lwb_base.specs.Messages.{Ask, Plan, code, code_of}
use Rattle.lwb_base.specs.declared.limits.TheConstants.{GREATEST_GAP}
use Rattle.scenario_text.specs.ScenarioParts.{ScenarioParts}
use Rattle.scenario_text.specs.OverLines.{IsOverScenario}
use Rattle.bus_rules.specs.declared.act.Act.{Act}
use Rattle.bus_rules.specs.declared.act.Act.TheVariants.{Declare, Leave}
use Rattle.bus_rules.specs.declared.delivery.Delivery.{Delivery}
use Rattle.bus_rules.specs.Cores.{Core}
use Rattle.bus_rules.specs.States.{State, StateOn}
use Rattle.bus_rules.specs.Streams.{WaitingPacket, stream_at}
use Rattle.bus_rules.specs.Tables.{TableEntry}
use Rattle.bus_terms.specs.Bus.{bus_deliveries, state_at}
use Rattle.bus_terms.specs.Flooding.{has}
use Rattle.law_times.specs.Paces.{HasEntry, HasSlowStreams}
use Rattle.law_times.specs.Reaches.{IsGroup, IsLossless, IsReached}
use Rattle.law_times.specs.ScriptedPower.{has_line}
use Rattle.law_times.specs.Tunes.{AreMembers}

-- a packet of a stream: its node, the boot of that, its number there and what it carries
pub record StreamPacket : Type 0 where
  pub node : ℕ
  pub boot : ℕ
  pub stream : ℕ
  pub packet : WaitingPacket

-- a node in this state has it waiting, after this many others of its stream
pub record IsQueued (x : State) (w : StreamPacket) (ahead : ℕ) : Type 0 where
  pub core : Core
  pub on : x ≡ StateOn core
  pub boot : core.boot ≡ w.boot
  pub place : slice_get (stream_at core.streams w.stream).queue ahead ≡ Some w.packet

-- a leave line of this stream
abbrev pub leaves : ℕ → Act → Bool
leaves i (Leave j) = j == i
leaves i other = false

-- a stream line or a leave line of this stream
abbrev pub resets : ℕ → Act → Bool
resets i (Declare j interval) = j == i
resets i (Leave j) = j == i
resets i other = false

-- in this slot of a round v delivers it
abbrev pub delivery_to : StreamPacket → ℕ → ℕ → ℕ → ℕ → Delivery
delivery_to w rank f slot v = record {
  frame = f;
  rank = rank;
  slot = slot;
  node = v;
  from = w.node;
  boot = w.boot;
  stream = w.stream;
  seq = w.packet.seq;
  payload = w.packet.payload;
}

-- in one slot of the round of this rank and frame each of the other nodes that a walk along them reaches delivers it
pub record IsDelivered (s : ScenarioParts) (rank f : ℕ) (among : List ℕ) (w : StreamPacket) : Type 0 where
  pub slot : ℕ
  pub all : (v : ℕ) → has among v ≡ true → v ≢ w.node → IsReached s among w.node v → Contains (bus_deliveries s) (delivery_to w rank f slot v)

-- after the script lines of frame f a member has it waiting. Nothing is lost and no leave line of its stream comes up to frame e
pub record AwaitsSlot (s : ScenarioParts) (rank host f e : ℕ) (among : List ℕ) (w : StreamPacket) (ahead : ℕ) : Type 0 where
  pub ends : e < s.frames
  pub group : IsGroup s host f e among
  pub members : AreMembers s rank f host among
  pub lossless : (g : ℕ) → f ≤ g → g ≤ e → IsLossless s g
  pub there : has among w.node ≡ true
  pub stream : w.stream ≤ 3
  pub queued : IsQueued (state_at s f w.node) w ahead
  pub stays : has_line (leaves w.stream) s f e w.node ≡ false

-- at the start of frame f the stream is agreed between its node, which is not the host, and the host with this entry and plan: the node requests
-- this interval, and the plan acknowledges no other; and a schedule has named the stream at the node, at the earliest GREATEST_GAP frames
-- before the round for which its last slot was granted
pub record IsAgreed (s : ScenarioParts) (rank host f : ℕ) (plan : Plan) (w : StreamPacket) (e : TableEntry) : Type 0 where
  pub core : Core
  pub on : state_at s f w.node ≡ StateOn core
  pub wish : (stream_at core.streams w.stream).wish ≡ e.interval
  pub agreed : (stream_at core.streams w.stream).agreed ≡ e.interval
  pub lately : e.granted * e.interval + s.profile.seconds * e.accepted
      ≤ s.profile.seconds * ((stream_at core.streams w.stream).last + GREATEST_GAP)
  pub acks : (a : Ask) → Contains plan.acks a → code_of a ≡ e.code → a.interval ≡ e.interval
  pub of_rank : plan.rank ≡ rank
  pub of_boot : (c : Core) → state_at s f host ≡ StateOn c → plan.boot ≡ c.boot

-- the host is within reach of the node, and no stream line or leave line of the stream comes up to frame e
pub record IsServed (s : ScenarioParts) (rank host f e : ℕ) (among : List ℕ) (plan : Plan) (w : StreamPacket) (entry : TableEntry) : Type 0 where
  pub guest : w.node ≢ host
  pub reach : IsReached s among w.node host
  pub keeps : has_line (resets w.stream) s f e w.node ≡ false
  pub agreed : IsAgreed s rank host f plan w entry

-- one of the first packets that wait is delivered within this many frames, if its stream is agreed and has been accepted before frame f: the
-- host then keeps it
abbrev pub AgreedPacketsComeWithin : ℕ → ℕ → ℕ → ℕ → Type 0
AgreedPacketsComeWithin queue interval seconds frames =
    (s : ScenarioParts) → IsOverScenario s → HasSlowStreams s → s.profile.seconds ≡ seconds
    → (rank host f : ℕ) (among : List ℕ) (w : StreamPacket) (ahead : ℕ) → (awaits : AwaitsSlot s rank host f (f + frames) among w ahead) → ahead < queue
    → (due : ℕ) (e : TableEntry) → HasEntry s host f due e → e.code ≡ code w.node w.stream → e.interval ≡ interval → e.accepted < f
    → IsServed s rank host f (f + frames) among awaits.members.plan w e → (g : ℕ) × (f ≤ g) × (g ≤ f + frames) × IsDelivered s rank g among w

-- one of the first packets that wait is delivered within this many frames, if its host accepted the stream, with this interval, before
-- frame f, and still has it, not accepted anew, GREATEST_GAP - 1 frames before the last of them
abbrev pub PacketsComeWithin : ℕ → ℕ → ℕ → ℕ → Type 0
PacketsComeWithin queue interval seconds frames =
    (s : ScenarioParts) → IsOverScenario s → HasSlowStreams s → s.profile.seconds ≡ seconds
    → (rank host f : ℕ) (among : List ℕ) (w : StreamPacket) (ahead : ℕ) → AwaitsSlot s rank host f (f + frames) among w ahead → ahead < queue
    → (due : ℕ) (e : TableEntry) → HasEntry s host (f + frames - (GREATEST_GAP - 1)) due e → e.code ≡ code w.node w.stream → e.interval ≡ interval
    → e.accepted < f → (g : ℕ) × (f ≤ g) × (g ≤ f + frames) × IsDelivered s rank g among w
