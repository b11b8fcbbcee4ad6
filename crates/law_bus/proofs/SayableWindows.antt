-- What a node says in a window may be said in its slot: as the window opens the node is in its ranges.
use Rattle.std.proofs.Common.{◌≡◌, ℕ, List, Some, None, Option, IfSome, sym, subst, true≢false}
use Rattle.lwb_packets.specs.declared.kind.Kind.{Kind}
use Rattle.bus_rules.specs.Slots.{Message, part_of, opened_slot}
use Rattle.lwb_member.specs.Places.{kind_for}
use Rattle.lwb_member.specs.Said.{MaySay}
use Rattle.node_core.specs.declared.stage.Stage.{Stage}
use Rattle.node_core.specs.declared.stage.Stage.TheVariants.{AwaitSlot}
use Rattle.node_core.specs.Nodes.{Node}
use Rattle.scenario_text.specs.ScenarioParts.{ScenarioParts}
use Rattle.air_log.specs.declared.entry.Entry.{Entry}
use Rattle.air_log.specs.Devices.{Device, Power, PowerOn}
use Rattle.air_log.specs.Lawful.{heard_by}
use Rattle.scenario_text.specs.Setups.{setup_of}
use Rattle.law_trails.specs.DeviceRanges.{IsPower}
use Rattle.law_trails.specs.NodeRanges.{IsInStage, IsNodeInRange}
use Rattle.law_trails.specs.Phases.{IsNextAlarm}
use Rattle.law_trails.proofs.SaidInRange.{IsSayable, placed, says}
use Rattle.law_trails.proofs.TrailsInRange.{set}
use Rattle.law_safety.specs.Rows.{AtTick}
use Rattle.law_safety.proofs.InvariantHolds.{all_rows}
use Rattle.law_safety.proofs.RunFacts.{known_id}
use Rattle.law_safety.proofs.WellSteps.{well_at_alarms}
use Rattle.law_windows.specs.WindowSteps.{KeepsWindows}
use Rattle.law_windows.proofs.WindowWalk.{windows_before}
use Rattle.law_bus.specs.SaidInWindows.{SaysInRange, SayableLaw}

may_be : (s : ScenarioParts) (v j : ℕ) (k : Kind) (o : Option Message) → IfSome o (IsSayable (setup_of s v) k j) → IfSome o (MaySay j)
may_be s v j k None is = tt
may_be s v j k (Some m) is = is.may

module _ (s : ScenarioParts) (clocks : ℕ → ℕ → ℕ) (air : List Entry) (v t : ℕ) (at : AtTick s clocks air v t) where
  -- a node in its ranges that awaits the slot
  says_there : (n : Node) (j : ℕ) → IsNodeInRange (setup_of s v) n → n.stage ≡ AwaitSlot j
      → IfSome (opened_slot (setup_of s v) n.frame (part_of n.core.plan j) n.core).message (MaySay j)
  says_there n j ranged stage =
      let S = setup_of s v in
      let part = part_of n.core.plan j in
      let id = known_id s at.run.driven.sound v at.known in
      let stands = subst (λ (st : Stage). IsInStage S n.frame n.core st) stage ranged.stage in
      may_be s v j (kind_for part) (opened_slot S n.frame part n.core).message
      (says S (set s at.run.driven.sound v id.0 id.1) n.frame j part n.core ranged.core (placed n.core.plan j ranged.core.plan stands.0))

  ranged_at : (d : Device) (n : Node) → IsNextAlarm s v (clocks v) (heard_by air v) t d → d.power ≡ PowerOn n → IsNodeInRange (setup_of s v) n
  ranged_at d n due on = subst (λ (p : Power). IsPower (setup_of s v) p) on (well_at_alarms s clocks air v t at d due).power

  says_steps : KeepsWindows s clocks air v (λ now taken w. SaysInRange s v w) t
  says_steps = record {
    begun = λ d n j fine due on stage by_alarm. says_there n j (ranged_at d n due on) stage;
    joined = λ d h n y fine next now on stage says rank by_alarm. absurd (true≢false (sym by_alarm));
    heard = λ d h n j w x fine next now on stage is in_it known. known;
    taken = λ d fine is before now x there. now.each x there;
    sent = λ d y n j w x fine enters own ends on stage waiting is in_it known. known;
    closed = λ d n j w x fine due on stage is known. known;
    passed = λ x known. known;
  }

pub sayable : SayableLaw
sayable s clocks air run v known t within w there =
    (windows_before s clocks air v (λ now taken w. SaysInRange s v w) all_rows run known (λ u at. says_steps s clocks air v u at) t within).each w there
