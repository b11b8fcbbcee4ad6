-- From a tick to a later one, between which nothing is due.
use Rattle.std.proofs.Common.{◌≡◌, ℕ, suc, ◌<◌, ◌≤◌, List, [], Contains, ◌⊎◌, inl, inr, refl, sym, ◌∙◌, arith, subst}
use Rattle.std.proofs.lemmas.Bool.{cases_lt}
use Rattle.lwb_base.proofs.Elements.{not_in_none}
use Rattle.event_calendar.specs.declared.class.Class.{Class}
use Rattle.event_calendar.specs.declared.class.Class.TheVariants.{SendingEnd}
use Rattle.event_calendar.specs.Orders.{rank}
use Rattle.scenario_text.specs.ScenarioParts.{ScenarioParts}
use Rattle.scenario_text.specs.declared.script.ScriptLine.{ScriptLine}
use Rattle.air_log.specs.Devices.{Device}
use Rattle.air_log.specs.Trails.{Reception, frame_start, before_tick}
use Rattle.air_log.specs.Ahead.{IsAhead}
use Rattle.air_log.proofs.NextDue.{until_next}
use Rattle.world_engine.specs.Moments.{Before, At, IsAtMoment}
use Rattle.world_engine.proofs.LinesTold.{lines_begin, lines_end}
use Rattle.world_engine.proofs.TickPoints.{IsOver, not_yet, to_class, passed_tick}

-- no line of v starts from tick a on and before tick b
abbrev pub NoLineIn : ScenarioParts → ℕ → ℕ → ℕ → Type 0
NoLineIn s v a b = (l : ScriptLine) → Contains s.script l → l.node ≡ v → a ≤ frame_start s l.frame → frame_start s l.frame < b → ⊥

abbrev pub HeardBefore : List Reception → ℕ → Type 0
HeardBefore hs a = (h : Reception) → Contains hs h → h.end < a

module _ (s : ScenarioParts) (v : ℕ) (clock : ℕ → ℕ) (hs : List Reception) (a b : ℕ) (up : a ≤ b) (over : HeardBefore hs a) where
  outside : (x : ℕ) → (a ≤ x → x < b → ⊥) → (x < a) ⊎ (b ≤ x)
  outside x none = elim (cases_lt x a) [ inl less ↦ inl less | inr from ↦ later from (cases_lt x b) ]
    where
      later : a ≤ x → (x < b) ⊎ (b ≤ x) → (x < a) ⊎ (b ≤ x)
      later from (inl less) = absurd (none from less)
      later from (inr more) = inr more

  -- to the beginning of a tick
  pub to_tick : (d : Device) → NoLineIn s v a b → d ≡ before_tick s v clock hs a → IsAhead b d → IsAtMoment s clock hs v b Before d
  to_tick d none at ahead =
      at
      ∙ sym (until_next s v clock hs a b up (record {
        set = subst (IsAhead b) at ahead;
        hearings = λ h there. inl (over h there);
        lines = λ l there own. outside (frame_start s l.frame) (none l there own);
      }))

  -- into a tick at which no line starts
  pub into_tick : (k : Class) (d : Device) → NoLineIn s v a (suc b) → d ≡ before_tick s v clock hs a → IsAhead b d
      → ((j : Class) → rank j < rank k → IsOver j b d) → IsAtMoment s clock hs v b (At k) d
  into_tick k d none at ahead none_earlier =
      let before = to_tick d (λ l there own from less. none l there own from (omega (arith, less))) at ahead in
      let told = lines_begin s v clock hs b [] d (λ l there. absurd (not_in_none l there)) before in
      let ends = lines_end s v clock hs b [] s.script d refl (λ l there own is. none l there own (omega (arith, up, is)) (omega (arith, is)))
      (λ h there is. omega (arith, over h there, up, is)) told in
      to_class s v clock hs b SendingEnd k d (omega arith) ends none_earlier

-- from a class of a tick to the beginning of a later one, or to a class of it
module _ (s : ScenarioParts) (v : ℕ) (clock : ℕ → ℕ) (hs : List Reception) (t b : ℕ) (later : t < b) (over : HeardBefore hs (suc t)) where
  pub from_class : (c : Class) (d : Device) → NoLineIn s v (suc t) b → IsAtMoment s clock hs v t (At c) d → IsAhead b d → IsAtMoment s clock hs v b Before d
  from_class c d none at ahead = to_tick s v clock hs (suc t) b (omega (arith, later)) over d none
      (passed_tick s v clock hs t c d at (λ j. not_yet j b t d later ahead)) ahead

  pub from_class_into : (c k : Class) (d : Device) → NoLineIn s v (suc t) (suc b) → IsAtMoment s clock hs v t (At c) d → IsAhead b d
      → ((j : Class) → rank j < rank k → IsOver j b d) → IsAtMoment s clock hs v b (At k) d
  from_class_into c k d none at ahead none_earlier =
      into_tick s v clock hs (suc t) b (omega (arith, later)) over k d none
      (passed_tick s v clock hs t c d at (λ j. not_yet j b t d later ahead)) ahead none_earlier
