-- The script lines of a frame, given one after another.
use Rattle.std.proofs.Common.{◌≡◌, ◌≢◌, ℕ, suc, ◌+◌, ◌<◌, ◌≤◌, List, [], ◌∷◌, ◌++◌, take, drop, length, Some, None, sym}
use Rattle.std.proofs.Common.{ap, subst, ◌∙◌, arith}
use Rattle.std.specs.Prelude.{Contains, slice_get}
use Rattle.std.proofs.lemmas.List.{take-append-drop}
use Rattle.std.proofs.lemmas.Option.{slice_get_within}
use Rattle.scenario_text.specs.ScenarioParts.{ScenarioParts}
use Rattle.scenario_text.specs.ScenarioFacts.{IsSoundScenario}
use Rattle.scenario_text.specs.declared.script.ScriptLine.{ScriptLine}
use Rattle.event_calendar.specs.declared.class.Class.TheVariants.{SendingEnd}
use Rattle.event_calendar.specs.Orders.{Due}
use Rattle.scenario_text.specs.AddedLines.{frame_of_line}
use Rattle.air_log.specs.Trails.{frame_start}
use Rattle.air_log.proofs.ListCuts.{IsGone, gone_first, gone_more, one_more, cut_at, cut_end, behind_first}
use Rattle.world_engine.specs.Fields.{FieldState}
use Rattle.air_log.specs.declared.entry.Entry.{Entry}
use Rattle.world_engine.specs.Counting.{TrailsStay}
use Rattle.world_engine.specs.Frames.{told_before, CountsScriptLinesBefore, IsNextLine}
use Rattle.world_engine.specs.Moments.{Before, InLines, At}
use Rattle.world_engine.specs.Running.{IsRunning}
use Rattle.world_engine.proofs.CountedScans.{stay_same, stay_then}
use Rattle.world_engine.proofs.RunsGoOn.{lines_begin, lines_over}
use Rattle.world_engine.proofs.ScriptCuts.{told_at_cut, next_splits}
use Rattle.world_engine.proofs.TrailsGoOn.{AreClocks}

-- the lines of frame f before line k of the script have been given, where this log was there before them
pub record AreTold (first : List Entry) (s : ScenarioParts) (clocks : ℕ → ℕ → ℕ) (f k : ℕ) (w : FieldState) (due : List Due) : Type 0 where
  pub within : k ≤ length s.script
  pub gone : IsGone frame_of_line s.script k f
  pub run : IsRunning s clocks (take k s.script) (frame_start s f) (InLines (take k s.script)) w due
  pub stay : TrailsStay s clocks (frame_start s f) first w.air

-- none yet
pub none_told : {s : ScenarioParts} {clocks : ℕ → ℕ → ℕ} {f k : ℕ} {w : FieldState} {due : List Due} → IsSoundScenario s → AreClocks clocks
    → CountsScriptLinesBefore s k f → IsRunning s clocks (told_before s f) (frame_start s f) Before w due → AreTold w.air s clocks f k w due
none_told {s} {clocks} {f} {k} {w} {due} sound drifts cut run = record {
  within = cut.within;
  gone = gone_first frame_of_line s.script k f cut.cut;
  run = subst (λ (told : List ScriptLine). IsRunning s clocks told (frame_start s f) (InLines told) w due) (told_at_cut s k f cut)
      (lines_begin s clocks sound drifts f w due run);
  stay = stay_same s clocks (frame_start s f) w.air;
}

module _ {first : List Entry} {s : ScenarioParts} {clocks : ℕ → ℕ → ℕ} {f k : ℕ} {w : FieldState} {due : List Due} (sound : IsSoundScenario s)
    (so_far : AreTold first s clocks f k w due) where
  -- the line at k is of the frame
  module _ {l : ScriptLine} (at : slice_get s.script k ≡ Some l) (same : l.frame ≡ f) {t : ℕ} (now : t ≡ frame_start s f) where
    is_next : IsNextLine s t (take k s.script) l
    is_next = record { rest = drop (suc k) s.script; is = next_splits s.script k l at; now = ap (frame_start s) same ∙ sym now }

    runs : IsRunning s clocks (take k s.script) t (InLines (take k s.script)) w due
    runs = subst (λ (u : ℕ). IsRunning s clocks (take k s.script) u (InLines (take k s.script)) w due) (sym now) so_far.run

    pub next_told : (told : List ScriptLine) × IsNextLine s t told l × IsRunning s clocks told t (InLines told) w due
    next_told = (take k s.script, is_next, runs)

    pub one_more_told : {new : FieldState} {new_due : List Due}
        → ((told : List ScriptLine) → IsNextLine s t told l → IsRunning s clocks told t (InLines told) w due
        → IsRunning s clocks (told ++ l ∷ []) t (InLines (told ++ l ∷ [])) new new_due × TrailsStay s clocks t w.air new.air)
        → AreTold first s clocks f (k + 1) new new_due
    one_more_told {new} {new_due} done =
        let below = slice_get_within s.script k l at in
        let after = done (take k s.script) is_next runs in
        let next_line : suc k ≡ k + 1 = omega arith in
        let more : take k s.script ++ l ∷ [] ≡ take (k + 1) s.script = one_more s.script k l at ∙ ap (λ (n : ℕ). take n s.script) next_line in
        record {
          within = omega (arith, below);
          gone = gone_more frame_of_line s.script k f l at same so_far.gone;
          run =
              subst (λ (told : List ScriptLine). IsRunning s clocks told (frame_start s f) (InLines told) new new_due) more
              (subst (λ (u : ℕ). IsRunning s clocks (take k s.script ++ l ∷ []) u (InLines (take k s.script ++ l ∷ [])) new new_due) now after.0);
          stay = stay_then s clocks (frame_start s f) first w.air new.air so_far.stay (subst (λ (u : ℕ). TrailsStay s clocks u w.air new.air) now after.1);
        }

  -- no line of the frame is left
  pub later_line : (l : ScriptLine) → slice_get s.script k ≡ Some l → l.frame ≢ f → CountsScriptLinesBefore s k (f + 1)
  later_line l at other =
      record { within = so_far.within; cut = cut_at frame_of_line s.script sound.script_ascends k f l at other so_far.gone }

  pub no_line : slice_get s.script k ≡ None → CountsScriptLinesBefore s k (f + 1)
  no_line none = record { within = so_far.within; cut = cut_end frame_of_line s.script k f none so_far.gone }

  pub lines_told : CountsScriptLinesBefore s k (f + 1) → IsRunning s clocks (told_before s (f + 1)) (frame_start s f) (InLines (told_before s (f + 1))) w due
  lines_told cut = subst (λ (told : List ScriptLine). IsRunning s clocks told (frame_start s f) (InLines told) w due)
      (sym (told_at_cut s k (f + 1) cut)) so_far.run

  pub all_told : AreClocks clocks → CountsScriptLinesBefore s k (f + 1) → IsRunning s clocks (told_before s (f + 1)) (frame_start s f) (At SendingEnd) w due
  all_told drifts cut =
      subst (λ (told : List ScriptLine). IsRunning s clocks told (frame_start s f) (At SendingEnd) w due) (sym (told_at_cut s k (f + 1) cut))
      (lines_over s clocks sound drifts f (take k s.script) (drop k s.script) w due (sym (take-append-drop k s.script)) left so_far.run)
    where
      left : (l : ScriptLine) → Contains (drop k s.script) l → f < l.frame
      left l there =
          let here = behind_first s.script k l there in
          let later = cut.cut.behind here.0 l here.2 here.1 in
          omega (arith, later)
