-- What each step keeps holds throughout a run.
use Rattle.std.specs.Bool.{⊤}
use Rattle.std.proofs.Common.{ℕ, zero, suc, ◌<◌, ◌≤◌, List, refl, arith}
use Rattle.tick_clock.specs.Clocks.{IsClock}
use Rattle.scenario_text.specs.ScenarioParts.{ScenarioParts}
use Rattle.scenario_text.specs.ScenarioFacts.{IsSoundScenario}
use Rattle.air_log.specs.Devices.{Device, at_rest}
use Rattle.air_log.specs.Trails.{Reception, run_end, before_tick}
use Rattle.law_trails.specs.Phases.{Phase, Lines, Hearings, End, Alarms, Start, Over, device_at, NothingDue}
use Rattle.law_trails.specs.Walks.{Keeps, HoldAll, HoldsInTick, HoldsAlong, HoldsInRun}
use Rattle.law_trails.proofs.StepsOfTick.{HoldsAll, all_hold, next_holds}

-- the property that says nothing
abbrev Nothing : ℕ → Phase → Device → Type 0
Nothing t phase d = ⊤

keeps_nothing : (s : ScenarioParts) (v : ℕ) (clock : ℕ → ℕ) (hs : List Reception) (t : ℕ) → Keeps Nothing s v clock hs t
keeps_nothing s v clock hs t = record {
  boot = λ d l count here next act on. tt;
  off = λ d l n here next act on. tt;
  streaming = λ d l n here next act on. tt;
  joining = λ d h n y here next on stage says rank. tt;
  hearing = λ d h n j w here next on stage. tt;
  sent = λ d x n j w here is own ends on stage waits. tt;
  late_sent = λ d x n j w here is own ends on stage idle. tt;
  sent_elsewhere = λ d x here is own ends none. tt;
  frame_alarm = λ d n here next on stage. tt;
  opening = λ d n j here next on stage. tt;
  closing = λ d n j w here next on stage. tt;
  alarm_elsewhere = λ d n here next on stage. tt;
  beginning = λ d o l here is order due on own. tt;
  missed_start = λ d o here is order due cannot. tt;
  onwards = λ phase d here is known. tt;
  passing = λ d here is. tt;
}

-- what is known of all devices of a trail
pub known_before : (s : ScenarioParts) (v : ℕ) (clock : ℕ → ℕ) (hs : List Reception) → IsSoundScenario s → IsClock clock
    → (t : ℕ) → t ≤ run_end s → NothingDue t Lines (before_tick s v clock hs t)
unfolding before_tick
known_before s v clock hs sound drifts zero within = record {
  sending = tt;
  alarm = tt;
  ordered = tt;
  off = record { radio = refl; alarm = refl; ordered = refl };
}
known_before s v clock hs sound drifts (suc t) within =
    let in_run : t < run_end s = omega (arith, within) in
    let keeps = keeps_nothing s v clock hs t in
    let all = all_hold Nothing s v clock hs t sound drifts in_run keeps (known_before s v clock hs sound drifts t (omega (arith, within))) tt in
    (next_holds Nothing s v clock hs t sound drifts in_run keeps all all.over).0

module _ (P : ℕ → Phase → Device → Type 0) where
  in_phase : (s : ScenarioParts) (v : ℕ) (clock : ℕ → ℕ) (hs : List Reception) (t : ℕ)
      (sound : IsSoundScenario s) (drifts : IsClock clock) (in_run : t < run_end s) (keeps : Keeps P s v clock hs t)
      → HoldsAll P s v clock hs t sound drifts in_run keeps → (phase : Phase) → P t phase (device_at s v clock hs t phase)
  in_phase s v clock hs t sound drifts in_run keeps all Lines = all.lines.1
  in_phase s v clock hs t sound drifts in_run keeps all Hearings = all.hearings.1
  in_phase s v clock hs t sound drifts in_run keeps all End = all.end.1
  in_phase s v clock hs t sound drifts in_run keeps all Alarms = all.alarms.1
  in_phase s v clock hs t sound drifts in_run keeps all Start = all.start.1
  in_phase s v clock hs t sound drifts in_run keeps all Over = all.over.1

  pub holds_in_tick : HoldsInTick P
  holds_in_tick s v clock hs t sound drifts in_run keeps holds =
      let all = all_hold P s v clock hs t sound drifts in_run keeps (known_before s v clock hs sound drifts t (omega (arith, in_run))) holds in
      (in_phase s v clock hs t sound drifts in_run keeps all, (next_holds P s v clock hs t sound drifts in_run keeps all all.over).1)

-- what is known in each phase
pub known_in_phase : (s : ScenarioParts) (v : ℕ) (clock : ℕ → ℕ) (hs : List Reception) → IsSoundScenario s → IsClock clock
    → (t : ℕ) → t < run_end s → (phase : Phase) → NothingDue t phase (device_at s v clock hs t phase)
known_in_phase s v clock hs sound drifts t in_run phase =
    let keeps = keeps_nothing s v clock hs t in
    of_phase phase (all_hold Nothing s v clock hs t sound drifts in_run keeps (known_before s v clock hs sound drifts t (omega (arith, in_run))) tt)
  where
    of_phase : (phase : Phase) → HoldsAll Nothing s v clock hs t sound drifts in_run (keeps_nothing s v clock hs t)
        → NothingDue t phase (device_at s v clock hs t phase)
    of_phase Lines all = all.lines.0
    of_phase Hearings all = all.hearings.0
    of_phase End all = all.end.0
    of_phase Alarms all = all.alarms.0
    of_phase Start all = all.start.0
    of_phase Over all = all.over.0

-- before the first tick
at_first : (P : ℕ → Phase → Device → Type 0) (s : ScenarioParts) (v : ℕ) (clock : ℕ → ℕ) (hs : List Reception)
    → P 0 Lines at_rest → P 0 Lines (before_tick s v clock hs 0)
unfolding before_tick
at_first P s v clock hs rests = rests

pub holds_along : (P : ℕ → Phase → Device → Type 0) → HoldsAlong P
holds_along P s v clock hs sound drifts rests keeps zero within = at_first P s v clock hs rests
holds_along P s v clock hs sound drifts rests keeps (suc t) within =
    let in_run : t < run_end s = omega (arith, within) in
    let before : P t Lines (before_tick s v clock hs t) = holds_along P s v clock hs sound drifts rests keeps t (omega (arith, within)) in
    (holds_in_tick P s v clock hs t sound drifts in_run (keeps t in_run before) before).1

pub holds_in_run : (P : ℕ → ℕ → Phase → Device → Type 0) → HoldsInRun P
holds_in_run P s clocks heard sound drifts rests keeps zero within v known = at_first (P v) s v (clocks v) (heard v) (rests v known)
holds_in_run P s clocks heard sound drifts rests keeps (suc t) within v known =
    let in_run : t < run_end s = omega (arith, within) in
    let before : HoldAll P s clocks heard t = λ u there. holds_in_run P s clocks heard sound drifts rests keeps t (omega (arith, within)) u there in
    (holds_in_tick (P v) s v (clocks v) (heard v) t sound (drifts v known) in_run (keeps t in_run before v known) (before v known)).1
