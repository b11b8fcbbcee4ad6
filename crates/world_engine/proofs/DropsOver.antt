-- The end of a run: the drops of its lines, read off a log, depends on what is received in it alone.
use Rattle.std.proofs.Common.{◌≡◌, ℕ, List, [], ◌∷◌, ◌++◌, refl, sym, ◌∙◌, ap, option_to_list, fold}
use Rattle.scenario_text.specs.ScenarioParts.{ScenarioParts}
use Rattle.scenario_text.specs.declared.script.ScriptLine.{ScriptLine}
use Rattle.event_calendar.specs.Orders.{Due}
use Rattle.bus_rules.specs.declared.delivery.DropLine.{DropLine}
use Rattle.air_log.specs.declared.entry.Entry.{Entry}
use Rattle.air_log.specs.ScriptedDevices.{device_after_line}
use Rattle.scenario_text.specs.Setups.{setup_of}
use Rattle.air_log.specs.Trails.{Reception, frame_start, run_end, before_tick}
use Rattle.air_log.specs.Lawful.{heard_by}
use Rattle.air_log.specs.Drops.{told_at_tick, drop_by, drops_of}
use Rattle.air_log.proofs.DropsBelow.{trail_drops_below, drops_by_place}
use Rattle.world_engine.specs.Fields.{FieldState}
use Rattle.world_engine.specs.FieldSteps.{IsClosed}
use Rattle.world_engine.specs.Moments.{Before}
use Rattle.world_engine.specs.Running.{IsRunning}
use Rattle.world_engine.proofs.TrailsOver.{same_heard}

module _ (s : ScenarioParts) (clocks : ℕ → ℕ → ℕ) (a b : List Entry) (same : (v : ℕ) → heard_by a v ≡ heard_by b v) where
  -- what a line loses, by what its node has received
  abbrev lost_by : List ScriptLine → ScriptLine → List Reception → List DropLine
  lost_by above l hs =
      option_to_list (drop_by l l.act
      (fold (device_after_line (clocks l.node) (setup_of s l.node) (frame_start s l.frame))
      (before_tick s l.node (clocks l.node) hs (frame_start s l.frame)) (told_at_tick s above l)).power)

  pub same_drops : (above ls : List ScriptLine) → trail_drops_below s clocks a above ls ≡ trail_drops_below s clocks b above ls
  same_drops above [] = refl
  same_drops above (l ∷ ls) =
      ap (λ (ds : List DropLine). ds ++ trail_drops_below s clocks a (above ++ l ∷ []) ls) (ap (lost_by above l) (same l.node))
      ∙ ap (λ (ds : List DropLine). lost_by above l (heard_by b l.node) ++ ds) (same_drops (above ++ l ∷ []) ls)

module _ (s : ScenarioParts) (clocks : ℕ → ℕ → ℕ) (w : FieldState) (due : List Due) (closed : FieldState)
    (running : IsRunning s clocks s.script (run_end s) Before w due) (over : IsClosed (run_end s) w due closed) where
  pub drops_over : closed.drops ≡ drops_of s clocks closed.air
  drops_over =
      over.drops
      ∙ running.script.drops
      ∙ drops_by_place s clocks w.air
      ∙ sym (same_drops s clocks closed.air w.air (same_heard s clocks w due closed running over) [] s.script)
      ∙ sym (drops_by_place s clocks closed.air)
