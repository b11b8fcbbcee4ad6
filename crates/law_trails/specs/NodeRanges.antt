-- A node and its window in their ranges.
use Rattle.std.specs.Prelude.{◌≡◌, ℕ, ◌+◌, ◌<◌, ◌≤◌, ◌⊎◌, List, true, false, length, ⊤}
use Rattle.std.specs.Option.{IfSome}
use Rattle.lwb_base.specs.declared.limits.TheConstants.{DATA_SLOTS, LAST_FRAME}
use Rattle.lwb_packets.specs.declared.kind.Kind.{Kind}
use Rattle.glossy_relay.specs.FloodState.{FloodState}
use Rattle.glossy_relay.specs.Relaying.{is_spelling, slot_of}
use Rattle.bus_rules.specs.Plans.{last_slot}
use Rattle.bus_rules.specs.Tuning.{rank_of, hosts}
use Rattle.bus_rules.specs.Cores.{Core, Setup}
use Rattle.bus_rules.specs.Slots.{is_schedule_part}
use Rattle.lwb_member.specs.Places.{kind_for}
use Rattle.lwb_member.specs.Said.{message_of}
use Rattle.node_core.specs.declared.stage.Stage.{Stage}
use Rattle.node_core.specs.declared.stage.Stage.TheVariants.{Idle, Scanning, AwaitFrame, AwaitSlot, InWindow}
use Rattle.node_core.specs.Windows.{Window}
use Rattle.node_core.specs.Nodes.{Node}
use Rattle.node_core.specs.Rows.{is_foreign}
use Rattle.node_core.specs.Standing.{IsInOwnRound, IsInside, KeepsFew}
use Rattle.law_trails.specs.CoreRanges.{IsCore}

-- what a flood carries
pub record IsCarried (s : Setup) (k : Kind) (j : ℕ) (q : List ℕ) : Type 0 where
  pub spelled : is_spelling k q ≡ true
  pub slot : slot_of q ≡ j
  pub most : length q ≤ s.profile.packet_max

-- the flood of a window of slot j, which is for packets of kind k
pub record IsFloodOfSlot (s : Setup) (k : Kind) (j : ℕ) (f : FloodState) : Type 0 where
  pub kind : f.kind ≡ k
  pub slot : f.slot ≡ j
  pub limit : f.limit ≡ s.sends
  pub sent : f.sent ≤ f.limit
  pub waiting : f.waiting ≡ true → f.sent < f.limit
  pub first : IfSome f.first (IsCarried s k j)

-- the window of slot j. own: what it accepted is of its rank; hosted: a host says the schedules of its round itself
pub record IsOpenInRange (s : Setup) (f : ℕ) (c : Core) (j : ℕ) (w : Window) : Type 0 where
  pub slot : j ≤ w.last
  pub last : w.last ≤ DATA_SLOTS + 5
  pub next : j < w.last → (j ≡ 0) ⊎ ((is_schedule_part w.part ≡ false) × (w.last ≡ last_slot c.plan))
  pub flood : IsFloodOfSlot s (kind_for w.part) j w.flood
  pub own : w.flood.initiated ≡ false → IfSome w.flood.first (λ q. is_foreign (rank_of c.tune) (message_of q) ≡ false)
  pub inside : IsInside c.plan j w.last w.part
  pub goes_on : j < w.last → IsInOwnRound f c
  pub hosted : hosts c.tune ≡ true → is_schedule_part w.part ≡ true → w.flood.initiated ≡ true

abbrev pub IsInStage : Setup → ℕ → Core → Stage → Type 0
IsInStage s f c Idle = ⊤
IsInStage s f c Scanning = hosts c.tune ≡ false
IsInStage s f c AwaitFrame = ⊤
IsInStage s f c (AwaitSlot j) = (j ≤ last_slot c.plan) × IsInOwnRound f c
IsInStage s f c (InWindow j w) = IsOpenInRange s f c j w

pub record IsNodeInRange (s : Setup) (n : Node) : Type 0 where
  pub core : IsCore s n.core
  pub frame : n.frame ≤ LAST_FRAME
  pub stage : IsInStage s n.frame n.core n.stage
  pub kept : KeepsFew s.profile n.core n.stage
