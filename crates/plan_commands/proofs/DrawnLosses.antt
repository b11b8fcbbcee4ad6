-- The scenario with the drawn losses that change a reception: they may be in it, and its bus is the drawn one.
use Rattle.std.proofs.Common.{◌≡◌, ℕ, ◌+◌, List, Option, Some, None, Result, Ok, Err, IfOk, length, option_map, sym, ◌∙◌, ap, subst}
use Rattle.std.specs.Str.Lines.{lines}
use Rattle.text_readers.specs.Faults.{RefusesBy}
use Rattle.text_readers.specs.declared.fault.FaultKind.{FaultKind}
use Rattle.link_trace.specs.Sealed.{Traced}
use Rattle.link_trace.specs.declared.lines.LoseLine.{LoseLine}
use Rattle.scenario_text.specs.ScenarioGrammar.{IsScenario}
use Rattle.scenario_text.specs.ScenarioParts.{ScenarioParts}
use Rattle.scenario_text.proofs.SoundScenarios.{sound, sound_lines}
use Rattle.scenario_text.specs.OverLines.{over}
use Rattle.drawn_links.specs.DrawnLosses.{drawn}
use Rattle.drawn_links.specs.Drawings.{Drawing, lines_of}
use Rattle.drawn_links.specs.declared.ratio_line.RatioLine.{RatioLine}
use Rattle.drawn_bus.specs.DrawnScenarios.{AreSameOnBus, drawn_scenario}
use Rattle.drawn_bus.specs.FloodLosses.{losses_of_bus}
use Rattle.drawn_bus.proofs.CollectedLosses.{collected_enough, with_collected}
use Rattle.drawn_bus.proofs.LossesInRange.{bus_fits}
use Rattle.added_losses.specs.LossesAdded.{AreInRange, SaysWithLosses}
use Rattle.network_text.specs.NetworkGrammar.{network_of}
use Rattle.plan_commands.specs.Commands.{fault_of}
use Rattle.plan_commands.specs.DrawnTexts.{IsDrawnText, draw_fault, drawn_lines, drawn_text_fault}
use Rattle.plan_commands.specs.declared.command.Command.TheVariants.{Draw}
use Rattle.plan_commands.proofs.DrawnRuns.{over_drawn}

module _ (s : ScenarioParts) (ratios : List RatioLine) (seed : ℕ) where
  -- what is found over links that draw is what is drawn
  pub found_lines : (links : Drawing) (trace : Traced) (frames : ℕ) (lines : List LoseLine)
      → links ≡ record { trace = trace; ratios = ratios; seed = seed; frames = frames } → trace.lines ≡ s.trace → frames ≡ s.frames
      → lines ≡ losses_of_bus s (over s (lines_of links)) → lines ≡ drawn_lines s ratios seed
  found_lines links trace frames lines is of_trace of_frames found =
      found ∙ ap (losses_of_bus s) (over_drawn s ratios seed links trace frames is of_trace of_frames)

  module _ (said : IsScenario s) where
    pub lines_fit : AreInRange s (drawn_lines s ratios seed)
    lines_fit = bus_fits s (drawn s.trace ratios seed s.frames) (sound s said) (sound_lines s said)

    pub is_drawn_text : (bytes : List ℕ) → SaysWithLosses s (drawn_lines s ratios seed) bytes → drawn_text_fault s ratios seed ≡ None
        → IsDrawnText s ratios seed bytes
    is_drawn_text bytes says fits =
        let t = says.0 in
        let is = says.1 in
        let hosts = (sound s said).some_hosts in
        record {
          fits = fits;
          drawn = t;
          said = says.3;
          spelled = says.2;
          losses = record { parts = is.parts; trace = with_collected s ratios seed t.trace is.trace };
          same_bus = subst (λ (x : ScenarioParts). AreSameOnBus x (drawn_scenario s ratios seed)) (sym is.parts)
              (collected_enough s ratios seed t.trace hosts is.trace);
        }

-- a text without a fault
pub answered : {A M : Type 0} (P Q : A → Type 0) (fault : Option FaultKind) → ((x : A) → P x → fault ≡ None → Q x) → (r : Result (Result A FaultKind) M)
    → IfOk r (λ a. IfOk a P) → IfOk r (λ a. RefusesBy a fault) → IfOk r (λ a. IfOk a Q)
answered P Q fault step (Ok (Ok x)) is fits = step x is fits
answered P Q fault step (Ok (Err k)) is fits = tt
answered P Q fault step (Err e) is fits = tt

-- and why there is none, in the line after the last
pub fault_after_last : {A : Type 0} (s : ScenarioParts) (ratios : List RatioLine) (seed : ℕ) (b : List ℕ) (count : ℕ) (r : Result A FaultKind) (k : FaultKind)
    → network_of b ≡ Ok (s, ratios) → r ≡ Err k → RefusesBy r (drawn_text_fault s ratios seed) → count ≡ length (lines b)
    → fault_of (Draw seed) b ≡ Some (count + 1, k)
fault_after_last s ratios seed b count r k is refused refuses counted =
    let fault : drawn_text_fault s ratios seed ≡ Some k = subst (λ x. RefusesBy x (drawn_text_fault s ratios seed)) refused refuses in
    ap (draw_fault seed b) is ∙ ap (option_map (λ j. (length (lines b) + 1, j))) fault ∙ ap (λ (n : ℕ). Some (n + 1, k)) (sym counted)
