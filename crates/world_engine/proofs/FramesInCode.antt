-- The frames of a run, one after another.
use Rattle.std.proofs.Common.{◌≡◌, ℕ, ◌+◌, ◌<◌, ◌^◌, List, [], length, replicate, sym, ap, subst, ◌∙◌, arith}
use Rattle.std.specs.Prelude.{All}
use Rattle.std.proofs.lemmas.List.{length-map}
use Rattle.std.proofs.lemmas.List.Elements.{All-contains}
use Rattle.scenario_text.specs.ScenarioParts.{ScenarioParts}
use Rattle.scenario_text.specs.ScenarioFacts.{IsSoundScenario, IsScriptLine}
use Rattle.scenario_text.specs.declared.script.ScriptLine.{ScriptLine}
use Rattle.event_calendar.specs.Orders.{Due}
use Rattle.air_log.specs.Trails.{run_end, frame_start}
use Rattle.world_engine.specs.Counting.{TrailsStay, scans_before, all_scans_before, AreCountedOn}
use Rattle.world_engine.specs.Fields.{FieldState}
use Rattle.world_engine.specs.Frames.{told_before, CountsScriptLinesBefore}
use Rattle.air_log.specs.Idling.{idle_before}
use Rattle.world_engine.specs.Moments.{Before, InLines}
use Rattle.world_engine.specs.Running.{IsRunning}
use Rattle.air_log.specs.declared.idle.Idle.{Idle}
use Rattle.world_engine.proofs.CountedScans.{none_scanned, few_scans, scans_stay, scanned_on}
use Rattle.world_engine.proofs.NextMoments.{starts_up}
use Rattle.world_engine.proofs.PlacedNodes.{as_many_devices}
use Rattle.world_engine.proofs.ScriptCuts.{told_all, told_at_cut, first_cut}

-- the run is at the beginning of frame f, line k of the script is the first that is not yet given, it is counted in how many
-- frames each node scans, and listed where nodes are idle
pub record IsAtFrame (s : ScenarioParts) (clocks : ℕ → ℕ → ℕ) (k f : ℕ) (scanned : List ℕ) (idle : List Idle) (w : FieldState) (due : List Due) : Type 0 where
  pub cut : CountsScriptLinesBefore s k f
  pub run : IsRunning s clocks (told_before s f) (frame_start s f) Before w due
  pub scanned_are : scanned ≡ all_scans_before s clocks w.air f
  pub idle_are : idle ≡ idle_before s clocks w.air f

pub first_frame : (s : ScenarioParts) (clocks : ℕ → ℕ → ℕ) (w : FieldState) (due : List Due) (places : ℕ) (scanned : List ℕ) (idle : List Idle)
    → places ≡ length s.nodes → scanned ≡ replicate places 0 → idle ≡ [] → IsRunning s clocks [] 0 Before w due → IsAtFrame s clocks 0 0 scanned idle w due
first_frame s clocks w due places scanned idle many are none run = record {
  cut = first_cut s;
  run = subst (λ (told : List ScriptLine). IsRunning s clocks told (frame_start s 0) Before w due) (sym (told_at_cut s 0 0 (first_cut s)))
      (subst (λ (t : ℕ). IsRunning s clocks [] t Before w due) (omega arith) run);
  scanned_are = are ∙ ap (λ (n : ℕ). replicate n 0) many ∙ none_scanned s clocks w.air;
  idle_are = none;
}

-- before the end of the last frame all lines are given
pub last_frame : (s : ScenarioParts) (clocks : ℕ → ℕ → ℕ) (sound : IsSoundScenario s) (k f : ℕ) (scanned : List ℕ) (idle : List Idle) (w : FieldState)
    (due : List Due) → f ≡ s.frames → IsAtFrame s clocks k f scanned idle w due → IsRunning s clocks s.script (run_end s) Before w due
last_frame s clocks sound k f scanned idle w due last at =
    subst (λ (told : List ScriptLine). IsRunning s clocks told (frame_start s s.frames) Before w due)
    (told_all s.frames s.script (λ l there. (All-contains (IsScriptLine s) s.script l sound.script there).in_run))
    (subst (λ (g : ℕ). IsRunning s clocks (told_before s g) (frame_start s g) Before w due) last at.run)

-- a frame: its lines, after which the places are counted whose nodes scan, and its events
module _ (s : ScenarioParts) (clocks : ℕ → ℕ → ℕ) (sound : IsSoundScenario s) (f : ℕ) (within : f < s.frames) (scanned : List ℕ)
    (first mid : FieldState) (due : List Due)
    (are : scanned ≡ all_scans_before s clocks first.air f) (stay : TrailsStay s clocks (frame_start s f) first.air mid.air)
    (run : IsRunning s clocks (told_before s (f + 1)) (frame_start s f) (InLines (told_before s (f + 1))) mid due) where
  so_far : scanned ≡ all_scans_before s clocks mid.air f
  so_far = are ∙ scans_stay s clocks (frame_start s f) f first.air mid.air (λ g less. starts_up s g f (omega (arith, less))) stay

  pub as_many_scanned : length scanned ≡ length mid.devices
  as_many_scanned =
      let long = as_many_devices s mid due run.places in omega (arith, ap length so_far, length-map s.nodes (scans_before s clocks mid.air f), long)

  pub few_scanned : All (λ n. n < 2 ^ 31) scanned
  few_scanned = subst (λ (l : List ℕ). All (λ n. n < 2 ^ 31) l) (sym so_far) (few_scans s clocks mid.air f (omega (arith, within, sound.few_frames)))

  pub scanned_through : (counted : List ℕ) (last : FieldState) → AreCountedOn mid.devices scanned counted
      → TrailsStay s clocks (frame_start s f) mid.air last.air → counted ≡ all_scans_before s clocks last.air (f + 1)
  scanned_through counted last on stays =
      scanned_on s clocks sound f within mid due run scanned counted so_far on
      ∙ scans_stay s clocks (frame_start s f) (f + 1) mid.air last.air (λ g less. starts_up s g f (omega (arith, less))) stays
