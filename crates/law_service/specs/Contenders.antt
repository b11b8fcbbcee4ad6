-- Two nodes that request in the same contention slot, again and again.
use Rattle.std.specs.Prelude.{◌≡◌, ◌≢◌, ◌<◌, ◌+◌, ◌%◌, ◌⊎◌, ℕ, true, false, is_some, None, length}
use Rattle.std.specs.List.{list_any}
use Rattle.lwb_base.specs.Messages.{Plan, Schedule}
use Rattle.scenario_text.specs.ScenarioParts.{ScenarioParts}
use Rattle.scenario_text.specs.OverLines.{IsOverScenario}
use Rattle.bus_rules.specs.Cores.{Core}
use Rattle.bus_rules.specs.Plans.{last_slot}
use Rattle.bus_rules.specs.States.{StateOn}
use Rattle.bus_rules.specs.Streams.{Streams, after_contention, due_stream, is_host, names, schedule_heard}
use Rattle.bus_terms.specs.Flooding.{Setting, candidates, has, hears, moment}
use Rattle.bus_terms.specs.Rounds.{Slot, accepted_at, message_said}
use Rattle.law_service.specs.Reach.{is_linked, TakesPart, LosesNothing}
use Rattle.bus_terms.specs.HostedRounds.{slot_in, node_before}

-- nodes u and v have ids that are equal modulo 16, equal tries and equal backoff
pub record AreTied (u v : ℕ) (a b : Streams) : Type 0 where
  pub ids : u % 16 ≡ v % 16
  pub tries : a.tries ≡ b.tries
  pub backoff : a.skips ≡ b.skips

-- the contention slot of its own that a node has after this many tries, of n
abbrev pub own_number : ℕ → ℕ → ℕ → ℕ
own_number node tries n = 1 + (node + tries) % n

-- of one, two or four contention slots they have the same
abbrev pub TiesShareSlots : Type 0
TiesShareSlots = (u v tries n : ℕ) → u % 16 ≡ v % 16 → (n ≡ 1) ⊎ (n ≡ 2) ⊎ (n ≡ 4) → own_number u tries n ≡ own_number v tries n

-- of three, ids that are 16 apart have different ones
abbrev pub ThreeSlotsPart : Type 0
ThreeSlotsPart = (u tries : ℕ) → own_number u tries 3 ≢ own_number (u + 16) tries 3

-- in their own slot, in which both have a request due, both send or both back off; and they are tied again
abbrev pub ContentionKeepsTies : Type 0
ContentionKeepsTies =
    (u v : ℕ) (a b : Streams) → AreTied u v a b → is_some (due_stream a) ≡ true → is_some (due_stream b) ≡ true
    → AreTied u v (after_contention u a) (after_contention v b)

-- so does a schedule that both accept and that acknowledges neither, if it is from the host of both, or from a host new to both
abbrev pub SchedulesKeepTies : Type 0
SchedulesKeepTies =
    (u v u_boot v_boot f : ℕ) (y : Schedule) (a b : Streams) → AreTied u v a b
    → is_host a.host y.plan.rank y.plan.boot ≡ is_host b.host y.plan.rank y.plan.boot
    → list_any (names u u_boot) y.plan.acks ≡ false → list_any (names v v_boot) y.plan.acks ≡ false
    → AreTied u v (schedule_heard u u_boot f y a) (schedule_heard v v_boot f y b)

-- in a step in which two different packets reach a node that captures neither, it receives nothing
abbrev pub DifferentPacketsCollide : Type 0
DifferentPacketsCollide =
    (s : Setting) (k w u v : ℕ) → u ≢ v → has (candidates s (moment s k) k w) u ≡ true → has (candidates s (moment s k) k w) v ≡ true
    → s.captured k w ≡ None → hears s (moment s k) k w ≡ None

-- slot j of the round is one of contention, in which u and v request, and nobody else says anything
pub record AreContenders (s : ScenarioParts) (rank f : ℕ) (p : Plan) (j u v : ℕ) : Type 0 where
  pub after_data : length p.owners < j
  pub before_last : j < last_slot p
  pub differ : u ≢ v
  pub members : TakesPart (slot_in s rank f p j) u × TakesPart (slot_in s rank f p j) v
  pub both : (is_some (message_said ((slot_in s rank f p j).window u)) ≡ true) × (is_some (message_said ((slot_in s rank f p j).window v)) ≡ true)
  pub others : (w : ℕ) → is_some (message_said ((slot_in s rank f p j).window w)) ≡ true → (w ≡ u) ⊎ (w ≡ v)

-- whoever else takes part has a link from both of them, or from neither
abbrev pub HaveSameNeighbours : ScenarioParts → Slot → ℕ → ℕ → Type 0
HaveSameNeighbours s x u v = (w : ℕ) → TakesPart x w → w ≢ u → w ≢ v → is_linked s u w ≡ is_linked s v w

-- the slot has no capture line
abbrev pub CapturesNone : Slot → Type 0
CapturesNone x = (k w : ℕ) → x.flood.captured k w ≡ None

-- two contenders in a slot without losses and captures that have the same neighbours
pub record Collide (s : ScenarioParts) (rank f : ℕ) (p : Plan) (j u v : ℕ) : Type 0 where
  pub contenders : AreContenders s rank f p j u v
  pub lossless : LosesNothing s (slot_in s rank f p j)
  pub neighbours : HaveSameNeighbours s (slot_in s rank f p j) u v
  pub uncaptured : CapturesNone (slot_in s rank f p j)

-- nobody accepts either request
abbrev pub ContendersAreLost : Type 0
ContendersAreLost =
    (s : ScenarioParts) → IsOverScenario s → (rank f : ℕ) (p : Plan) (j u v : ℕ) → Collide s rank f p j u v
    → (w : ℕ) → accepted_at (slot_in s rank f p j) w ≡ None

-- the two after the slot, tied again
pub record AreTiedAfter (s : ScenarioParts) (rank f : ℕ) (p : Plan) (j u v : ℕ) : Type 0 where
  pub first : Core
  pub first_on : node_before s rank f p (j + 1) u ≡ StateOn first
  pub second : Core
  pub second_on : node_before s rank f p (j + 1) v ≡ StateOn second
  pub tied : AreTied u v first.streams second.streams

-- and if they were tied, they are tied again
abbrev pub ContendersStayTied : Type 0
ContendersStayTied =
    (s : ScenarioParts) → IsOverScenario s → (rank f : ℕ) (p : Plan) (j u v : ℕ) → Collide s rank f p j u v
    → (c d : Core) → node_before s rank f p j u ≡ StateOn c → node_before s rank f p j v ≡ StateOn d → AreTied u v c.streams d.streams
    → AreTiedAfter s rank f p j u v
