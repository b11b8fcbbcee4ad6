-- A node that is not in the scenario is never on.
use Rattle.std.proofs.Common.{◌≡◌, ◌&&◌, ◌==◌, ℕ, zero, suc, [], Bool, true, false, get_or, fold, sym, ◌∙◌, ap, subst}
use Rattle.std.proofs.lemmas.Bool.{false≢true, ne_eqb}
use Rattle.scenario_text.specs.ScenarioParts.{ScenarioParts}
use Rattle.scenario_text.specs.declared.script.ScriptLine.{ScriptLine}
use Rattle.bus_rules.specs.Cores.{frame_ended}
use Rattle.bus_rules.specs.States.{State, StateOff, at_core}
use Rattle.bus_terms.specs.Bus.{before_frame, state_at}
use Rattle.bus_terms.specs.FloodOfText.{ids}
use Rattle.bus_terms.specs.Flooding.{has}
use Rattle.scenario_text.specs.OverLines.{IsOverScenario}
use Rattle.bus_terms.specs.Rounds.{rank_in}
use Rattle.scenario_text.specs.Setups.{setup_of}
use Rattle.bus_terms.specs.ScriptedStates.{lines_of, state_after_line}
use Rattle.bus_terms.proofs.OtherRanks.{IsElsewhere, round_elsewhere}
use Rattle.plain_bus.specs.BusNodes.{AreOffOutside}
use Rattle.plain_bus.proofs.SoundOver.{sound_over}
use Rattle.plain_bus.proofs.TextFloods.{has_known}
use Rattle.bus_model.proofs.FramesInTurn.{first_frame, next_frame}
use Rattle.bus_model.proofs.LinesTold.{none_kept, own}

module _ (s : ScenarioParts) (said : IsOverScenario s) (v : ℕ) (out : has (ids s.nodes) v ≡ false) where
  -- no line is for it
  none_given : (f : ℕ) → lines_of s f v ≡ []
  none_given f = none_kept (own f v) s.script (λ i d below.
      (let l : ScriptLine = get_or s.script i d in
      let known : has (ids s.nodes) l.node ≡ true = sym (has_known s.nodes l.node) ∙ ((sound_over s said).script i d below).known in
      ap (λ (b : Bool). b && (l.frame == f)) (ne_eqb l.node v (λ same. false≢true (sym out ∙ ap (has (ids s.nodes)) (sym same) ∙ known)))))

  after_lines : (f : ℕ) → before_frame s f v ≡ StateOff 0 → state_at s f v ≡ StateOff 0
  after_lines f off = ap (fold state_after_line (before_frame s f v)) (none_given f) ∙ off

  off_before : (f : ℕ) → before_frame s f v ≡ StateOff 0
  off_before zero = ap (λ (g : ℕ → State). g v) (first_frame s)
  off_before (suc f) =
      let off = after_lines f (off_before f) in
      let rank = rank_in (state_at s f v) in
      ap (λ (g : ℕ → State). g v) (next_frame s f)
      ∙ ap (at_core (frame_ended (setup_of s v) f))
      (round_elsewhere s rank f v (state_at s f) (subst (IsElsewhere rank) (sym off) tt) ∙ off)

  pub off_at : (f : ℕ) → state_at s f v ≡ StateOff 0
  off_at f = after_lines f (off_before f)

pub all_off_outside : (s : ScenarioParts) → IsOverScenario s → (f : ℕ) → AreOffOutside s (state_at s f)
all_off_outside s said f v out = off_at s said v out f
