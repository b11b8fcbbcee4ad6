-- A node that is on is by its tune after the script lines of each frame.
use Rattle.std.proofs.Common.{◌≡◌, ℕ, zero, suc, ◌<◌, List, [], ◌∷◌, true, refl, sym, subst, arith, fold}
use Rattle.std.specs.Bool.{⊤}
use Rattle.bus_rules.specs.Cores.{Core, Setup}
use Rattle.scenario_text.specs.ScenarioParts.{ScenarioParts}
use Rattle.scenario_text.specs.FloodParts.{knows}
use Rattle.bus_rules.specs.declared.act.Act.{Act}
use Rattle.scenario_text.specs.declared.script.ScriptLine.{ScriptLine}
use Rattle.air_log.specs.declared.entry.Entry.{Entry}
use Rattle.air_log.specs.Devices.{Device, Power, PowerOff, PowerOn}
use Rattle.air_log.specs.Lawful.{heard_by}
use Rattle.air_log.specs.ScriptedDevices.{device_after_act, device_after_line}
use Rattle.air_log.proofs.DeviceActs.{each_act}
use Rattle.scenario_text.specs.Setups.{setup_of}
use Rattle.air_log.specs.Trails.{before_tick, frame_start, lines_at}
use Rattle.law_trails.specs.TrailLinks.{device_in}
use Rattle.law_trails.proofs.RowsOfDevices.{switched_on_is}
use Rattle.law_safety.specs.Invariant.{IsObedientRun}
use Rattle.law_safety.proofs.InvariantHolds.{all_rows}
use Rattle.law_terms.specs.FrameCourses.{power_at}
use Rattle.law_windows.specs.FramePlaces.{PlacesLaw, StandsByTune}
use Rattle.law_windows.proofs.Courses.{run_of}
use Rattle.law_windows.proofs.FrameEnds.{EndsAs, is_end}

abbrev PlacedBy : Power → Type 0
PlacedBy (PowerOff boots) = ⊤
PlacedBy (PowerOn n) = StandsByTune n

module _ (clock : ℕ → ℕ) (s : Setup) (t : ℕ) where
  -- a line that is given
  act_place : (d : Device) (a : Act) (p : Power) → d.power ≡ p → PlacedBy p → PlacedBy (device_after_act clock s t d a p).power
  act_place d a p is placed =
      each_act clock s t d (λ e. PlacedBy e.power) a p (subst PlacedBy (sym is) placed)
      (λ boots off. subst PlacedBy (sym (switched_on_is clock s t boots d).power) (record { place = refl; fresh = refl })) (λ n on. tt)
      (λ n on. let stands : StandsByTune n = subst PlacedBy on placed in record { place = stands.place; fresh = stands.fresh })

  lines_place : (ls : List ScriptLine) (d : Device) → PlacedBy d.power → PlacedBy (fold (device_after_line clock s t) d ls).power
  lines_place [] d placed = placed
  lines_place (l ∷ ls) d placed = lines_place ls (device_after_line clock s t d l) (act_place d l.act d.power refl placed)

module _ (s : ScenarioParts) (clocks : ℕ → ℕ → ℕ) (air : List Entry) (v : ℕ) where
  -- before the script lines
  ended_place : (f : ℕ) (logs : List _) (p : Power) → EndsAs s clocks air v f logs p → PlacedBy p
  ended_place f logs (PowerOff boots) is = tt
  ended_place f logs (PowerOn n) is = record { place = is.place; fresh = is.fresh }

  at_first : PlacedBy (before_tick s v (clocks v) (heard_by air v) 0).power
  unfolding before_tick
  at_first = tt

  before_lines : IsObedientRun s clocks air → knows s.nodes v ≡ true → (f : ℕ) → f < s.frames → PlacedBy (device_in s clocks air v (frame_start s f)).power
  before_lines run known zero in_run = subst (λ (t : ℕ). PlacedBy (before_tick s v (clocks v) (heard_by air v) t).power) (omega arith) at_first
  before_lines run known (suc f) in_run =
      let end = is_end s clocks air v f all_rows run known (omega (arith, in_run)) in
      ended_place f _ (device_in s clocks air v (frame_start s (suc f))).power end.ends

  behind_lines : IsObedientRun s clocks air → knows s.nodes v ≡ true → (f : ℕ) → f < s.frames → PlacedBy (power_at s clocks air v f)
  behind_lines run known f in_run =
      lines_place (clocks v) (setup_of s v) (frame_start s f) (lines_at s v (frame_start s f)) (device_in s clocks air v (frame_start s f))
      (before_lines run known f in_run)

pub places : PlacesLaw
places s clocks air lawful v f known in_run n on = subst PlacedBy on (behind_lines s clocks air v (run_of s clocks air lawful) known f in_run)
