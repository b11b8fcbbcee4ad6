-- A node that is on is at a place, and its alarm is set: each step of a trail keeps it.
use Rattle.std.proofs.Common.{◌≡◌, ℕ, ◌+◌, ◌<◌, List, true, ◌==◌, nat_lt, None, Option, is_some, refl, sym, ◌∙◌, ap, subst, arith}
use Rattle.std.proofs.lemmas.Bool.{cond_both}
use Rattle.tick_clock.specs.Clocks.{IsClock}
use Rattle.scenario_text.specs.ScenarioParts.{ScenarioParts}
use Rattle.scenario_text.specs.ScenarioFacts.{IsSoundScenario}
use Rattle.bus_rules.specs.declared.tune.Tune.{Tune}
use Rattle.bus_rules.specs.declared.tune.Tune.TheVariants.{Scan, Hold, Host}
use Rattle.bus_rules.specs.Cores.{Setup, frame_ended}
use Rattle.node_core.specs.declared.stage.Stage.TheVariants.{Idle, AwaitFrame, AwaitSlot}
use Rattle.node_core.specs.Nodes.{Node, stopped_frame}
use Rattle.node_core.specs.Rows.{stage_for}
use Rattle.air_log.specs.Devices.{Device, PowerOn, OrderedPacket}
use Rattle.scenario_text.specs.Setups.{setup_of}
use Rattle.air_log.specs.Trails.{Reception, run_end}
use Rattle.law_trails.specs.Phases.{Phase, device_at}
use Rattle.law_trails.specs.Walks.{Keeps, IsAwakeStage, AwakeBy, IsAwake}
use Rattle.law_trails.specs.RowEffects.{Leaves}
use Rattle.law_trails.proofs.RowsLeave.{boot_leaves, joining_leaves, hearing_leaves, sent_leaves, frame_alarm_leaves, opening_leaves, closing_leaves}
use Rattle.law_trails.proofs.WalkOfRun.{holds_in_tick, holds_along}

abbrev Awake : ℕ → Phase → Device → Type 0
Awake t phase d = IsAwake d

-- a row that leaves the node at a place, and an alarm set
left_awake : {d e : Device} {n : Node} {channel alarm : Option ℕ} {ordered : Option OrderedPacket} → Leaves d n channel alarm ordered e → IsAwakeStage n.stage
    → is_some alarm ≡ true → IsAwake e
left_awake {e = e} leaves placed set = subst (AwakeBy e) (sym leaves.power) (placed, ap (λ (a : Option ℕ). is_some a) leaves.alarm_is ∙ set)

placed_for : (tune : Tune) (f : ℕ) → IsAwakeStage (stage_for tune f)
placed_for (Scan r waited) f = tt
placed_for (Hold r due) f = cond_both (due == f) (AwaitSlot 0) AwaitFrame IsAwakeStage (λ is. tt) (λ is. tt)
placed_for (Host r due) f = cond_both (due == f) (AwaitSlot 0) AwaitFrame IsAwakeStage (λ is. tt) (λ is. tt)

same_place : (d : Device) (n : Node) → IsAwake d → d.power ≡ PowerOn n → IsAwakeStage n.stage × (is_some d.alarm ≡ true)
same_place d n is on = subst (AwakeBy d) on is

never_idle : (d : Device) (n : Node) → IsAwake d → d.power ≡ PowerOn n → n.stage ≡ Idle → ⊥
never_idle d n is on stage = subst IsAwakeStage stage (same_place d n is on).0

module _ (s : ScenarioParts) (v : ℕ) (clock : ℕ → ℕ) (hs : List Reception) (t : ℕ) where
  abbrev node : Setup
  node = setup_of s v

  abbrev taken : Device → Device
  taken d = record d { alarm = None }

  awake_keeps : Keeps Awake s v clock hs t
  awake_keeps = record {
    boot = λ d l count here next act on. left_awake (boot_leaves clock node t d count) tt refl;
    off = λ d l n here next act on. tt;
    streaming = λ d l n here next act on. same_place d n here.holds on;
    joining = λ d h n y here next on stage says rank. left_awake (joining_leaves clock node t d n h.packet y) tt refl;
    hearing = λ d h n j w here next on stage. left_awake (hearing_leaves clock node t d n j w h.packet) tt (same_place d n here.holds on).1;
    sent = λ d x n j w here is own ends on stage waits. left_awake (sent_leaves clock node t (record d { sending = None }) x n j w) tt
        (same_place d n here.holds on).1;
    late_sent = λ d x n j w here is own ends on stage idle. same_place d n here.holds on;
    sent_elsewhere = λ d x here is own ends none. here.holds;
    frame_alarm = λ d n here next on stage.
        left_awake (frame_alarm_leaves clock node t (taken d) n) (placed_for (frame_ended node n.frame n.core).tune (stopped_frame (n.frame + 1))) refl;
    opening = λ d n j here next on stage. left_awake (opening_leaves clock node t (taken d) n j) tt refl;
    closing = λ d n j w here next on stage.
        left_awake (closing_leaves clock node t (taken d) n j w)
        (cond_both (nat_lt j w.last) (AwaitSlot (j + 1)) AwaitFrame IsAwakeStage (λ more. tt) (λ over. tt)) refl;
    alarm_elsewhere = λ d n here next on stage. absurd (never_idle d n here.holds on stage);
    beginning = λ d o l here is order due on own. here.holds;
    missed_start = λ d o here is order due cannot. here.holds;
    onwards = λ phase d here is known. here.holds;
    passing = λ d here is. here.holds;
  }

pub awake_in_phase : (s : ScenarioParts) (v : ℕ) (clock : ℕ → ℕ) (hs : List Reception) → IsSoundScenario s → IsClock clock
    → (t : ℕ) → t < run_end s → (phase : Phase) → IsAwake (device_at s v clock hs t phase)
awake_in_phase s v clock hs sound drifts t in_run phase =
    let before = holds_along Awake s v clock hs sound drifts tt (λ t in_run is. awake_keeps s v clock hs t) t (omega (arith, in_run)) in
    (holds_in_tick Awake s v clock hs t sound drifts in_run (awake_keeps s v clock hs t) before).0 phase
