-- Two members of a rank that request in its contention slots, round after round.
use Rattle.std.specs.Prelude.{◌≡◌, ◌≢◌, ◌<◌, ◌≤◌, ◌+◌, ◌*◌, ◌%◌, ◌⊎◌, ◌==◌, ℕ, List, [], Bool, true, false, is_some, length}
use Rattle.std.specs.List.{list_any}
use Rattle.lwb_base.specs.Messages.{Ask, Plan, node_of}
use Rattle.lwb_base.specs.declared.limits.TheConstants.{GREATEST_GAP}
use Rattle.scenario_text.specs.ScenarioParts.{ScenarioParts}
use Rattle.scenario_text.specs.OverLines.{IsOverScenario}
use Rattle.bus_rules.specs.declared.act.Act.{Act}
use Rattle.bus_rules.specs.declared.act.Act.TheVariants.{Declare, Leave}
use Rattle.bus_rules.specs.Cores.{Core}
use Rattle.bus_rules.specs.Plans.{last_slot, slots_named}
use Rattle.bus_rules.specs.States.{StateOn}
use Rattle.bus_rules.specs.Streams.{Streams, names, stream_at}
use Rattle.bus_terms.specs.Bus.{state_at}
use Rattle.bus_terms.specs.Flooding.{has}
use Rattle.bus_terms.specs.HostedRounds.{IsHosted, slot_in, state_after_round}
use Rattle.bus_terms.specs.Rounds.{message_said}
use Rattle.law_service.specs.RequestService.{ReachesHost}
use Rattle.law_times.specs.ContentionTurns.{ids_apart}
use Rattle.law_times.specs.Reaches.{IsGroup, IsLossless, IsReached}
use Rattle.law_times.specs.ScriptedPower.{has_line}
use Rattle.law_times.specs.Tunes.{AreMembers}

-- a stream that the host has not agreed to, with a packet waiting: its request is due
pub record IsNew (x : Streams) (i : ℕ) : Type 0 where
  pub few : i ≤ 3
  pub wish : (stream_at x i).wish ≢ 0
  pub agreed : (stream_at x i).agreed ≡ 0
  pub waits : (stream_at x i).queue ≢ []

-- at the start of frame f a node has such a stream
pub record Asks (s : ScenarioParts) (f node : ℕ) : Type 0 where
  pub core : Core
  pub on : state_at s f node ≡ StateOn core
  pub stream : ℕ
  pub due : IsNew core.streams stream

-- a stream line or a leave line
abbrev pub changes_wish : Act → Bool
changes_wish (Declare i interval) = true
changes_wish (Leave i) = true
changes_wish other = false

-- in the contention slots of this round nobody but the two requests; of the host it is known
abbrev pub AreAlone : ScenarioParts → ℕ → ℕ → Plan → ℕ → ℕ → ℕ → Type 0
AreAlone s rank f p host u v =
    (j w : ℕ) → length p.owners < j → j < last_slot p → w ≢ host → is_some (message_said ((slot_in s rank f p j).window w)) ≡ true → (w ≡ u) ⊎ (w ≡ v)

-- a plan that neither acknowledges a request of this node and boot nor has a data slot for it
pub record PassesOver (p : Plan) (node boot : ℕ) : Type 0 where
  pub acks : list_any (names node boot) p.acks ≡ false
  pub owners : list_any (λ c. node_of c == node) p.owners ≡ false

-- two such members, up to frame e, in which nothing is lost, and with this many contention slots in each round; the host's plan in frame f
-- passes over both
pub record AreTwo (s : ScenarioParts) (rank host f e : ℕ) (among : List ℕ) (u v slots : ℕ) : Type 0 where
  pub group : IsGroup s host f e among
  pub members : AreMembers s rank f host among
  pub lossless : (g : ℕ) → f ≤ g → g ≤ e → IsLossless s g
  pub there : (has among u ≡ true) × (has among v ≡ true)
  pub differ : u % ids_apart slots ≢ v % ids_apart slots
  pub guests : (u ≢ host) × (v ≢ host)
  pub reach : IsReached s among u host × IsReached s among v host
  pub named : slots_named s.profile.contend ≡ slots
  pub boot : ℕ
  pub booted : (c : Core) → state_at s f host ≡ StateOn c → c.boot ≡ boot
  pub plan : (members.plan.rank ≡ rank) × (members.plan.boot ≡ boot)
  pub first : Asks s f u
  pub second : Asks s f v
  pub unnamed : PassesOver members.plan u first.core.boot × PassesOver members.plan v second.core.boot
  pub lines : (has_line changes_wish s f e u ≡ false) × (has_line changes_wish s f e v ≡ false)
  pub alone : (g : ℕ) (p : Plan) → f ≤ g → g ≤ e → IsHosted s rank g p host → AreAlone s rank g p host u v

-- the plan that the host makes in this round acknowledges a request of this node and boot, or has a data slot for it
pub record IsNamed (s : ScenarioParts) (rank f : ℕ) (p : Plan) (host node boot : ℕ) : Type 0 where
  pub core : Core
  pub on : state_after_round s rank f p host ≡ StateOn core
  pub named : (list_any (names node boot) core.plan.acks ≡ true) ⊎ (list_any (λ c. node_of c == node) core.plan.owners ≡ true)

-- in this round its request is the only one, and reaches the host, which then keeps it
pub record IsHeardAlone (s : ScenarioParts) (rank f : ℕ) (p : Plan) (host node : ℕ) : Type 0 where
  pub slot : ℕ
  pub ask : Ask
  pub core : Core
  pub reaches : ReachesHost s rank f p host slot node ask core

-- one of the two is named, or heard alone
pub record IsAnswered (s : ScenarioParts) (rank f host u v : ℕ) : Type 0 where
  pub plan : Plan
  pub hosted : IsHosted s rank f plan host
  pub boots : ℕ × ℕ
  pub answer : (IsNamed s rank f plan host u boots.0 ⊎ IsNamed s rank f plan host v boots.1)
      ⊎ (IsHeardAlone s rank f plan host u ⊎ IsHeardAlone s rank f plan host v)

-- within this many rounds one of them is
abbrev pub PartOnTheBus : ℕ → ℕ → Type 0
PartOnTheBus slots rounds =
    (s : ScenarioParts) → IsOverScenario s → (rank host f : ℕ) (among : List ℕ) (u v : ℕ) → AreTwo s rank host f (f + GREATEST_GAP * rounds) among u v slots
    → (g : ℕ) × (f ≤ g) × (g < f + GREATEST_GAP * rounds) × IsAnswered s rank g host u v
