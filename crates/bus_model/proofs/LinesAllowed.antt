-- What a line of the script asks of its node is allowed, and what it leaves.
use Rattle.std.proofs.Common.{◌≡◌, ◌<◌, ◌≤◌, ◌+◌, ◌++◌, ◌∷◌, ◌==◌, [], ℕ, Bool, true, false, Option, Some, None, inl, inr, if◌then◌else◌}
use Rattle.std.proofs.Common.{length, take, drop, get_or, refl, sym, ◌∙◌, ap, subst, arith, take-append-drop}
use Rattle.std.proofs.lemmas.Bool.{eq-eqb, cases_eq, cases_lt}
use Rattle.std.proofs.lemmas.List.{take_more, get_or_default}
use Rattle.scenario_text.specs.FloodParts.{knows}
use Rattle.scenario_text.specs.ScenarioParts.{ScenarioParts}
use Rattle.scenario_text.specs.ScenarioFacts.{turned, turned_by}
use Rattle.bus_rules.specs.States.{IsAct, State, StateOff, StateOn, at_core, state_after_act}
use Rattle.bus_rules.specs.declared.act.Act.{Act}
use Rattle.bus_rules.specs.declared.act.Act.TheVariants.{On, Off, Declare, Leave, Put}
use Rattle.scenario_text.specs.declared.script.ScriptLine.{ScriptLine}
use Rattle.scenario_text.proofs.BootsTold.{Boots, turned_over}
use Rattle.scenario_text.proofs.BootsCounted.{never_less}
use Rattle.bus_rules.proofs.Switches.{acts_keep}
use Rattle.bus_rules.specs.Cores.{Setup, as_host, begins_host, frame_ended}
use Rattle.bus_rules.specs.declared.tune.Tune.{Tune}
use Rattle.bus_terms.specs.ScriptedStates.{power}
use Rattle.bus_terms.specs.FloodOfText.{ids}
use Rattle.bus_terms.specs.Flooding.{has}
use Rattle.scenario_text.specs.OverLines.{IsOverScenario}
use Rattle.plain_bus.specs.BusNodes.{MayDo, IsEarlyState}
use Rattle.plain_bus.proofs.SoundOver.{sound_over}
use Rattle.plain_bus.proofs.TextFloods.{has_known}

module _ (s : ScenarioParts) (said : IsOverScenario s) (n : ℕ) (l : ScriptLine) (below : n < length s.script) (at : l ≡ get_or s.script n l) where
  pub line_act : IsAct s.profile l.act
  line_act = subst (λ (m : ScriptLine). IsAct s.profile m.act) (sym at) ((sound_over s said).script n l below).act

  pub line_known : has (ids s.nodes) l.node ≡ true
  line_known = sym (has_known s.nodes l.node) ∙ ap (λ (m : ScriptLine). knows s.nodes m.node) at ∙ ((sound_over s said).script n l below).known

  few : (boots : ℕ) → l.act ≡ On → (false, boots) ≡ turned l.node (false, 0) (take n s.script) → boots < 200
  few boots on before =
      let v = l.node in
      let front : turned v (false, 0) (take (n + 1) s.script) ≡ (true, boots + 1) =
      ap (turned v (false, 0)) (take_more s.script n l below ∙ ap (λ (y : ScriptLine). take n s.script ++ y ∷ []) (sym at))
      ∙ turned_over v (false, 0) (take n s.script) (l ∷ [])
      ∙ ap (λ (b : Boots). if v == v then turned_by l.act b else b) (sym before)
      ∙ ap (λ (b : Bool). if b then turned_by l.act (false, boots) else (false, boots)) (eq-eqb v v refl)
      ∙ ap (λ (a : Act). turned_by a (false, boots)) on in
      let whole : turned v (false, 0) s.script ≡ turned v (true, boots + 1) (drop (n + 1) s.script) =
      ap (turned v (false, 0)) (sym (take-append-drop (n + 1) s.script)) ∙ turned_over v (false, 0) (take (n + 1) s.script) (drop (n + 1) s.script)
      ∙ ap (λ (b : Boots). turned v b (drop (n + 1) s.script)) front in
      let most : (turned v (true, boots + 1) (drop (n + 1) s.script)).1 ≤ 200 = subst (λ (b : Boots). b.1 ≤ 200) whole ((sound_over s said).few_boots v) in
      omega (arith, most, never_less v (true, boots + 1) (drop (n + 1) s.script))

  pub may_do : (x : State) → power x ≡ turned l.node (false, 0) (take n s.script) → MayDo l.act x
  may_do x have = by_act l.act refl x have
    where
      by_act : (a : Act) → l.act ≡ a → (x : State) → power x ≡ turned l.node (false, 0) (take n s.script) → MayDo a x
      by_act On is (StateOff boots) have = few boots is have
      by_act On is (StateOn c) have = tt
      by_act Off is x have = tt
      by_act (Declare i interval) is x have = tt
      by_act (Leave i) is x have = tt
      by_act (Put i payload) is x have = tt

  -- where the line is one of a later frame, so are all that follow
  pub later_lines : (f : ℕ) → f ≤ l.frame → (l.frame ≡ f → ⊥) → (i : ℕ) (d : ScriptLine) → n ≤ i → i < length s.script → f < (get_or s.script i d).frame
  later_lines f up other i d high near = elim (cases_lt n i) [
    | inl after ↦ (let rises = (sound_over s said).script_ascends n i d after near in
        omega (arith, rises, above, ap (λ (m : ScriptLine). m.frame) (at ∙ get_or_default s.script n l d below)))
    | inr not_after ↦ (let same : n ≡ i = omega (arith, high, not_after) in
        let here : l ≡ get_or s.script i d = at ∙ get_or_default s.script n l d below ∙ ap (λ (k : ℕ). get_or s.script k d) same in
        omega (arith, above, ap (λ (m : ScriptLine). m.frame) here))
  ]
    where
      above : f < l.frame
      above = elim (cases_eq l.frame f)
          [ inl same ↦ absurd (other same) | inr differ ↦ elim (cases_lt f l.frame) [ inl less ↦ less | inr more ↦ absurd (other (omega (arith, up, more))) ] ]

-- a table without entries, or the same one, is as early
pub act_early : (f : ℕ) (a : Act) (x : State) → IsEarlyState f x → IsEarlyState f (state_after_act a x)
act_early f = acts_keep (IsEarlyState f) (λ boots is i d below. absurd (omega (arith, below))) (λ c is. tt) (λ a c is. is)

pub ended_early : (q : Setup) (f : ℕ) (x : State) → IsEarlyState f x → IsEarlyState (f + 1) (at_core (frame_ended q f) x)
ended_early q f (StateOff boots) is = is
ended_early q f (StateOn c) is = by_host _ (begins_host c.tune _)
  where
    by_host : (t : Tune) (rank : Option ℕ) → IsEarlyState (f + 1) (StateOn (as_host q.profile rank (record c { tune = t; own_slot = None })))
    by_host t None = λ i d below. (let before = is i d below in omega (arith, before))
    by_host t (Some rank) = λ i d below. absurd (omega (arith, below))
