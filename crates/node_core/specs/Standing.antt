-- Where a node is, and what holds of it at all times.
use Rattle.std.specs.Prelude.{◌≡◌, ℕ, ◌+◌, ◌-◌, ◌^◌, ◌<◌, ◌≤◌, ◌⊎◌, true, false, if◌then◌else◌, length, Some, None, [], ⊤}
use Rattle.std.specs.Option.{IfSome}
use Rattle.lwb_base.specs.Profile.{Numbers}
use Rattle.lwb_base.specs.Messages.{Plan}
use Rattle.lwb_base.specs.Orders.{Told, Gives}
use Rattle.lwb_base.specs.declared.limits.TheConstants.{LAST_FRAME}
use Rattle.time_reference.specs.Reference.{RoundTimes, times_of}
use Rattle.glossy_relay.specs.Relaying.{is_spelling}
use Rattle.std.specs.declared.option.Option.{Option}
use Rattle.bus_rules.specs.declared.part.Part.{Part}
use Rattle.bus_rules.specs.declared.part.Part.TheVariants.{Opening, Data as DataSlot, Contention, Closing}
use Rattle.bus_rules.specs.Plans.{last_slot}
use Rattle.bus_rules.specs.declared.tune.Tune.{Tune}
use Rattle.bus_rules.specs.declared.tune.Tune.TheVariants.{Scan, Hold, Host}
use Rattle.bus_rules.specs.Tuning.{hosts}
use Rattle.bus_rules.specs.Cores.{Core}
use Rattle.bus_rules.specs.Slots.{hosts_now, is_schedule_part}
use Rattle.node_core.specs.declared.node.Place as Place
use Rattle.node_core.specs.declared.stage.Stage.{Stage}
use Rattle.node_core.specs.declared.stage.Stage.TheVariants.{Idle, Scanning, AwaitFrame, AwaitSlot, InWindow}
use Rattle.node_core.specs.Windows.{Window}
use Rattle.node_core.specs.Nodes.{NodeState}
use Rattle.lwb_member.specs.Planning.{IsEarly}
use Rattle.lwb_member.specs.Places.{kind_for}
use Rattle.node_core.specs.Rows.{Stepped}

abbrev pub place_of : Stage → Place.Place
place_of Idle = Place.TheVariants.Off
place_of Scanning = Place.TheVariants.Scanning
place_of AwaitFrame = Place.TheVariants.AwaitFrame
place_of (AwaitSlot j) = Place.TheVariants.AwaitSlot j
place_of (InWindow j w) = Place.TheVariants.InWindow j

-- data slots and contention slots come before the last slot, and contention slots after the data slots
abbrev pub IsInside : Plan → (j last : ℕ) → Part → Type 0
IsInside p j last Opening = ⊤
IsInside p j last (DataSlot owner) = j < last
IsInside p j last (Contention i) = (length p.owners < j) × (j < last)
IsInside p j last Closing = ⊤

-- the window of slot j: its round goes on by the plan, unless this slot may bring another one. Its flood is of the slot's
-- kind, and what it carries too
pub record IsWindow (c : Core) (j : ℕ) (w : Window) : Type 0 where
  pub next : j < w.last → (j ≡ 0) ⊎ ((is_schedule_part w.part ≡ false) × (w.last ≡ last_slot c.plan))
  pub kind : w.flood.kind ≡ kind_for w.part
  pub carried : IfSome w.flood.first (λ p. is_spelling (kind_for w.part) p ≡ true)
  pub reference : IfSome w.reference (λ z. z < 2 ^ 47)
  pub inside : IsInside c.plan j w.last w.part

abbrev pub IsStage : Core → Stage → Type 0
IsStage c Idle = c.tune ≡ Scan 0 0
IsStage c Scanning = ⊤
IsStage c AwaitFrame = ⊤
IsStage c (AwaitSlot j) = j ≤ last_slot c.plan
IsStage c (InWindow j w) = IsWindow c j w

-- a host that is in a round is in its own
abbrev pub IsInOwnRound : ℕ → Core → Type 0
IsInOwnRound frame c = hosts c.tune ≡ true → hosts_now frame c ≡ true

-- what is so where a node hosts: it does not scan, and the schedules of its round are its own
abbrev pub HostsIn : ℕ → Core → Stage → Type 0
HostsIn frame c Idle = ⊤
HostsIn frame c Scanning = hosts c.tune ≡ false
HostsIn frame c AwaitFrame = ⊤
HostsIn frame c (AwaitSlot j) = IsInOwnRound frame c
HostsIn frame c (InWindow j w) = (j < w.last → IsInOwnRound frame c) × (hosts c.tune ≡ true → is_schedule_part w.part ≡ true → w.flood.initiated ≡ true)

-- how many contention slots of the round are over
abbrev pub contended : Plan → Stage → ℕ
contended p Idle = 0
contended p Scanning = 0
contended p AwaitFrame = 0
contended p (AwaitSlot j) = j - (length p.owners + 1)
contended p (InWindow j w) = if is_schedule_part w.part then 0 else j - (length p.owners + 1)

-- a host keeps one request at most for each contention slot of its round so far, and other nodes keep none
pub record KeepsFew (p : Numbers) (c : Core) (stage : Stage) : Type 0 where
  pub few : length c.kept ≤ contended c.plan stage
  pub none : hosts c.tune ≡ false → c.kept ≡ []
  pub named : hosts c.tune ≡ true → c.plan.contend ≡ p.contend

-- reference: when the slots of its round begin, with the lengths of the profile
pub record IsNode (p : Numbers) (c : Core) (frame : ℕ) (reference : RoundTimes) (stage : Stage) : Type 0 where
  pub few : frame ≤ LAST_FRAME
  pub timed : reference ≡ times_of p reference.zero
  pub stands : IsStage c stage
  pub accepted : IsEarly frame c.table
  pub hosted : HostsIn frame c stage
  pub kept : KeepsFew p c stage

-- the frame of the next round of a synchronized member or host
abbrev pub IsDue : ℕ → Tune → Type 0
IsDue f (Scan r waited) = ⊤
IsDue f (Hold r due) = due ≡ f
IsDue f (Host r due) = due ≡ f

-- the row that fits was gone through; where none fits, nothing changed and nothing was ordered
abbrev pub GoesThroughRow : NodeState → NodeState → Told → Told → Option Stepped → Type 0
GoesThroughRow old new before after None = (new ≡ old) × Gives before after []
GoesThroughRow old new before after (Some r) = (new ≡ record old { node = r.node; delivery = r.delivery }) × Gives before after r.orders
