-- Whether a node is on by the power lines of a script is what the laws on time say of its power.
use Rattle.std.proofs.Common.{◌≡◌, ℕ, zero, suc, ◌≤◌, List, [], ◌∷◌, ◌++◌, filter, fold, Bool, true, false, ◌&&◌, ◌==◌, nat_lt, if◌then◌else◌}
use Rattle.std.proofs.Common.{Some, None, Option, inl, inr, refl, sym, ◌∙◌, ap, arith, eq-eqb}
use Rattle.std.specs.Prelude.{AllPairs, find, reverse}
use Rattle.std.specs.List.{cons_option}
use Rattle.std.specs.Option.{option_map_or, option_or}
use Rattle.std.proofs.lemmas.Bool.{ne_eqb, lt-ltb, le-ltb, cases_order}
use Rattle.std.proofs.lemmas.List.{reverse-append}
use Rattle.std.proofs.lemmas.List.Folds.{find-append}
use Rattle.lwb_base.proofs.Elements.{pairs_tail}
use Rattle.scenario_text.specs.ScenarioParts.{ScenarioParts}
use Rattle.scenario_text.specs.ScenarioFacts.{turned, turned_by}
use Rattle.scenario_text.specs.declared.script.ScriptLine.{ScriptLine}
use Rattle.scenario_text.proofs.BootsTold.{turned_over}
use Rattle.bus_rules.specs.declared.act.Act.{Act}
use Rattle.bus_rules.specs.declared.act.Act.TheVariants.{On, Off, Declare, Leave, Put}
use Rattle.bus_terms.specs.ScriptedStates.{lines_of}
use Rattle.law_times.specs.ScriptedPower.{power_after_line, power_before}
use Rattle.bus_bounds.specs.PowerLines.{is_on_before, power_lines, switched_by}
use Rattle.bus_bounds.specs.declared.power_line.PowerLine.{PowerLine}

abbrev earlier : ℕ → List ScriptLine → List ScriptLine
earlier f ls = filter (λ l. nat_lt l.frame f) ls

abbrev in_frame : ℕ → List ScriptLine → List ScriptLine
in_frame f ls = filter (λ l. l.frame == f) ls

-- none is of a frame before this one, nor before that of the line above it
abbrev Rises : ℕ → List ScriptLine → Type 0
Rises low [] = Unit {0}
Rises low (l ∷ ls) = (low ≤ l.frame) × Rises l.frame ls

rises_after : (x : ScriptLine) (ls : List ScriptLine) → AllPairs (λ (a b : ScriptLine). a.frame ≤ b.frame) (x ∷ ls) → Rises x.frame ls
rises_after x [] pairs = tt
rises_after x (y ∷ ls) pairs =
    (pairs 0 1 x (omega arith) (omega arith), rises_after y ls (pairs_tail (λ (a b : ScriptLine). a.frame ≤ b.frame) x (y ∷ ls) pairs))

rises : (ls : List ScriptLine) → AllPairs (λ (a b : ScriptLine). a.frame ≤ b.frame) ls → Rises 0 ls
rises [] pairs = tt
rises (x ∷ ls) pairs = (omega arith, rises_after x ls pairs)

none_earlier : (f low : ℕ) (ls : List ScriptLine) → f ≤ low → Rises low ls → earlier f ls ≡ []
none_earlier f low [] le up = refl
none_earlier f low (l ∷ ls) le up = rw (le-ltb l.frame f (omega (arith, le, up.0))) (none_earlier f l.frame ls (omega (arith, le, up.0)) up.1)

-- one frame more
one_more : (f low : ℕ) (ls : List ScriptLine) → Rises low ls → earlier (suc f) ls ≡ earlier f ls ++ in_frame f ls
one_more f low [] up = refl
one_more f low (l ∷ ls) up =
    let k = l.frame in
    let rest = one_more f k ls up.1 in
    elim (cases_order k f) [
      | inl same ↦ (
          let none = none_earlier f k ls (omega (arith, same)) up.1 in
          let before : earlier f (l ∷ ls) ≡ [] = rw (le-ltb k f (omega (arith, same))) none in
          let now : in_frame f (l ∷ ls) ≡ l ∷ in_frame f ls = rw (eq-eqb k f same) refl in
          let both : earlier (suc f) (l ∷ ls) ≡ l ∷ earlier (suc f) ls = rw (lt-ltb k (suc f) (omega (arith, same))) refl in
          both ∙ ap (λ (xs : List ScriptLine). l ∷ xs) (rest ∙ ap (λ (xs : List ScriptLine). xs ++ in_frame f ls) none)
          ∙ sym (ap (λ (xs : List ScriptLine). xs ++ in_frame f (l ∷ ls)) before ∙ now)
          )
      | inr other ↦
          elim other [
            | inl less ↦ (
                let before : earlier f (l ∷ ls) ≡ l ∷ earlier f ls = rw (lt-ltb k f less) refl in
                let now : in_frame f (l ∷ ls) ≡ in_frame f ls = rw (ne_eqb k f (omega (arith, less))) refl in
                let both : earlier (suc f) (l ∷ ls) ≡ l ∷ earlier (suc f) ls = rw (lt-ltb k (suc f) (omega (arith, less))) refl in
                both ∙ ap (λ (xs : List ScriptLine). l ∷ xs) rest
                ∙ sym (ap (λ (xs : List ScriptLine). xs ++ in_frame f (l ∷ ls)) before ∙ ap (λ (xs : List ScriptLine). l ∷ (earlier f ls ++ xs)) now)
                )
            | inr more ↦ (
                let before : earlier f (l ∷ ls) ≡ earlier f ls = rw (le-ltb k f (omega (arith, more))) refl in
                let now : in_frame f (l ∷ ls) ≡ in_frame f ls = rw (ne_eqb k f (omega (arith, more))) refl in
                let both : earlier (suc f) (l ∷ ls) ≡ earlier (suc f) ls = rw (le-ltb k (suc f) (omega (arith, more))) refl in
                both ∙ rest ∙ sym (ap (λ (xs : List ScriptLine). xs ++ in_frame f (l ∷ ls)) before ∙ ap (λ (xs : List ScriptLine). earlier f ls ++ xs) now)
                )
          ]
    ]

-- the lines of one node in a frame do to it what all of them do
own_lines : (v f : ℕ) (t : Bool × ℕ) (ls : List ScriptLine)
    → fold power_after_line t (filter (λ (l : ScriptLine). (l.node == v) && (l.frame == f)) ls) ≡ turned v t (in_frame f ls)
own_lines v f t [] = refl
own_lines v f t (l ∷ ls) = by_tests (l.node == v) (l.frame == f) refl (λ u. own_lines v f u ls)
  where
    rest : List ScriptLine
    rest = filter (λ (x : ScriptLine). (x.node == v) && (x.frame == f)) ls

    by_tests : (own now : Bool) → (l.node == v) ≡ own → ((u : Bool × ℕ) → fold power_after_line u rest ≡ turned v u (in_frame f ls))
        → fold power_after_line t (if own && now then l ∷ rest else rest) ≡ turned v t (if now then l ∷ in_frame f ls else in_frame f ls)
    by_tests true true is goes = goes (turned_by l.act t) ∙ ap (λ (own : Bool). turned v (if own then turned_by l.act t else t) (in_frame f ls)) (sym is)
    by_tests true false is goes = goes t
    by_tests false true is goes = goes t ∙ ap (λ (own : Bool). turned v (if own then turned_by l.act t else t) (in_frame f ls)) (sym is)
    by_tests false false is goes = goes t

-- power before a frame is by the lines of the frames before it
module _ (s : ScenarioParts) (ascends : AllPairs (λ (a b : ScriptLine). a.frame ≤ b.frame) s.script) where
  power_so_far : (f v : ℕ) → power_before s f v ≡ turned v (false, 0) (earlier f s.script)
  unfolding power_before
  power_so_far zero v = sym (ap (turned v (false, 0)) (none_earlier 0 0 s.script (omega arith) (rises s.script ascends)))
  power_so_far (suc f) v =
      ap (λ (t : Bool × ℕ). fold power_after_line t (lines_of s f v)) (power_so_far f v)
      ∙ own_lines v f (turned v (false, 0) (earlier f s.script)) s.script
      ∙ sym (turned_over v (false, 0) (earlier f s.script) (in_frame f s.script))
      ∙ sym (ap (turned v (false, 0)) (one_more f 0 s.script (rises s.script ascends)))

abbrev on_of : PowerLine → Bool
on_of l = l.on

module _ (v f : ℕ) where
  abbrev is_told : PowerLine → Bool
  is_told l = (l.node == v) && nat_lt l.frame f

  -- whether it is on by the last of these, or as before
  abbrev on_by : Option PowerLine → Bool → Bool
  on_by o was = option_map_or on_of o was

  later : (x y : Option PowerLine) (was : Bool) → on_by (option_or x y) was ≡ on_by x (on_by y was)
  later None y was = refl
  later (Some x) y was = refl

  alone : (b : Bool) (p : PowerLine) (was : Bool) → on_by (if b then Some p else None) was ≡ (if b then p.on else was)
  alone true p was = refl
  alone false p was = refl

  line_above : (p : PowerLine) (ps : List PowerLine) (was : Bool)
      → on_by (find is_told (reverse (p ∷ ps))) was ≡ on_by (find is_told (reverse ps)) (if is_told p then p.on else was)
  line_above p ps was =
      ap (λ (xs : List PowerLine). on_by (find is_told xs) was) (reverse-append (p ∷ []) ps)
      ∙ ap (λ (o : Option PowerLine). on_by o was) (find-append is_told (reverse ps) (p ∷ []))
      ∙ later (find is_told (reverse ps)) (find is_told (p ∷ [])) was
      ∙ ap (on_by (find is_told (reverse ps))) (alone (is_told p) p was)

  abbrev after : Bool → Bool → Act → Bool × ℕ → Bool × ℕ
  after own early a t = if early then (if own then turned_by a t else t) else t

  picks_on : (own early : Bool) (t : Bool × ℕ) → (if own && early then true else t.0) ≡ (after own early On t).0
  picks_on true true t = refl
  picks_on true false t = refl
  picks_on false true t = refl
  picks_on false false t = refl

  picks_off : (own early : Bool) (t : Bool × ℕ) → (if own && early then false else t.0) ≡ (after own early Off t).0
  picks_off true true t = refl
  picks_off true false t = refl
  picks_off false true t = refl
  picks_off false false t = refl

  stays : (own early : Bool) (t : Bool × ℕ) → t.0 ≡ (if early then (if own then t else t) else t).0
  stays true true t = refl
  stays true false t = refl
  stays false true t = refl
  stays false false t = refl

  by_act : (l : ScriptLine) (a : Act) (ps : List PowerLine) (t : Bool × ℕ)
      → on_by (find is_told (reverse (cons_option (switched_by l a) ps))) t.0
      ≡ on_by (find is_told (reverse ps)) (after (l.node == v) (nat_lt l.frame f) a t).0
  by_act l On ps t =
      line_above (record { frame = l.frame; node = l.node; on = true }) ps t.0
      ∙ ap (on_by (find is_told (reverse ps))) (picks_on (l.node == v) (nat_lt l.frame f) t)
  by_act l Off ps t =
      line_above (record { frame = l.frame; node = l.node; on = false }) ps t.0
      ∙ ap (on_by (find is_told (reverse ps))) (picks_off (l.node == v) (nat_lt l.frame f) t)
  by_act l (Declare i interval) ps t = ap (on_by (find is_told (reverse ps))) (stays (l.node == v) (nat_lt l.frame f) t)
  by_act l (Leave i) ps t = ap (on_by (find is_told (reverse ps))) (stays (l.node == v) (nat_lt l.frame f) t)
  by_act l (Put i payload) ps t = ap (on_by (find is_told (reverse ps))) (stays (l.node == v) (nat_lt l.frame f) t)

  first_line : (early : Bool) (l : ScriptLine) (ls : List ScriptLine) (t : Bool × ℕ)
      → turned v t (if early then l ∷ ls else ls) ≡ turned v (after (l.node == v) early l.act t) ls
  first_line true l ls t = refl
  first_line false l ls t = refl

  on_by_lines : (ls : List ScriptLine) (t : Bool × ℕ) → (turned v t (earlier f ls)).0 ≡ on_by (find is_told (reverse (power_lines ls))) t.0
  on_by_lines [] t = refl
  on_by_lines (l ∷ ls) t =
      let next = after (l.node == v) (nat_lt l.frame f) l.act t in
      ap (λ (u : Bool × ℕ). u.0) (first_line (nat_lt l.frame f) l (earlier f ls) t)
      ∙ on_by_lines ls next
      ∙ sym (by_act l l.act (power_lines ls) t)

-- the last power line says it
pub on_before : (s : ScenarioParts) → AllPairs (λ (a b : ScriptLine). a.frame ≤ b.frame) s.script → (f v : ℕ)
    → (power_before s f v).0 ≡ is_on_before (power_lines s.script) v f
on_before s ascends f v = ap (λ (t : Bool × ℕ). t.0) (power_so_far s ascends f v) ∙ on_by_lines v f s.script (false, 0)
