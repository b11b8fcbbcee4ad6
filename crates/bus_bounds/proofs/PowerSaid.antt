-- What is found in the power lines of a script is what the laws on time ask of it.
use Rattle.std.proofs.Common.{◌≡◌, ℕ, suc, ◌+◌, ◌<◌, ◌≤◌, List, [], ◌∷◌, filter, fold, Bool, true, false, not, ◌&&◌, ◌||◌, ◌==◌, nat_lt, nat_le, if◌then◌else◌}
use Rattle.std.proofs.Common.{inl, inr, refl, sym, ◌∙◌, ap, arith, add-one}
use Rattle.std.specs.Prelude.{AllPairs}
use Rattle.std.specs.List.{cons_option, list_any}
use Rattle.std.proofs.lemmas.Bool.{and_parts, cond_both, false≢true, not-true, or_cases}
use Rattle.scenario_text.specs.ScenarioParts.{ScenarioParts}
use Rattle.scenario_text.specs.ScenarioFacts.{turned_by}
use Rattle.scenario_text.specs.declared.script.ScriptLine.{ScriptLine}
use Rattle.bus_rules.specs.declared.act.Act.{Act}
use Rattle.bus_rules.specs.declared.act.Act.TheVariants.{On, Off, Declare, Leave, Put}
use Rattle.bus_terms.specs.ScriptedStates.{lines_of}
use Rattle.law_times.specs.ScriptedPower.{BootsIn, has_line, is_on_in, power_after_line, power_before, turns_off, turns_on}
use Rattle.bus_bounds.specs.PowerLines.{boots_in, goes_off_in, is_on_before, is_within, power_lines, switched_by}
use Rattle.bus_bounds.specs.declared.power_line.PowerLine.{PowerLine}
use Rattle.bus_bounds.proofs.ScriptPower.{on_before}

passed : (own r x y : Bool) → ((own && false && x && y) || r) ≡ r
passed true r x y = refl
passed false r x y = refl

grouped : (a x y r : Bool) → ((a && x && y) || r) ≡ ((a && (x && y)) || r)
grouped true x y r = refl
grouped false x y r = refl

-- the off and on lines of a node after a frame, up to another
module _ (b e v : ℕ) where
  has_off_in : (ls : List ScriptLine) → list_any (λ l. (l.node == v) && turns_off l.act && nat_lt b l.frame && nat_le l.frame e) ls
      ≡ list_any (λ (p : PowerLine). (p.node == v) && not p.on && is_within b e p) (power_lines ls)
  has_off_in [] = refl
  has_off_in (l ∷ ls) = by_act l.act (has_off_in ls)
    where
      rest : Bool
      rest = list_any (λ (x : ScriptLine). (x.node == v) && turns_off x.act && nat_lt b x.frame && nat_le x.frame e) ls

      by_act : (a : Act) → rest ≡ list_any (λ (p : PowerLine). (p.node == v) && not p.on && is_within b e p) (power_lines ls)
          → (((l.node == v) && turns_off a && nat_lt b l.frame && nat_le l.frame e) || rest)
          ≡ list_any (λ (p : PowerLine). (p.node == v) && not p.on && is_within b e p) (cons_option (switched_by l a) (power_lines ls))
      by_act On again =
          grouped ((l.node == v) && false) (nat_lt b l.frame) (nat_le l.frame e) rest
          ∙ ap (λ (r : Bool). ((l.node == v) && false && (nat_lt b l.frame && nat_le l.frame e)) || r) again
      by_act Off again =
          grouped ((l.node == v) && true) (nat_lt b l.frame) (nat_le l.frame e) rest
          ∙ ap (λ (r : Bool). ((l.node == v) && true && (nat_lt b l.frame && nat_le l.frame e)) || r) again
      by_act (Declare i interval) again = passed (l.node == v) rest _ _ ∙ again
      by_act (Leave i) again = passed (l.node == v) rest _ _ ∙ again
      by_act (Put i payload) again = passed (l.node == v) rest _ _ ∙ again

  has_on_in : (ls : List ScriptLine) → list_any (λ l. (l.node == v) && turns_on l.act && nat_lt b l.frame && nat_le l.frame e) ls
      ≡ list_any (λ (p : PowerLine). (p.node == v) && p.on && is_within b e p) (power_lines ls)
  has_on_in [] = refl
  has_on_in (l ∷ ls) = by_act l.act (has_on_in ls)
    where
      rest : Bool
      rest = list_any (λ (x : ScriptLine). (x.node == v) && turns_on x.act && nat_lt b x.frame && nat_le x.frame e) ls

      by_act : (a : Act) → rest ≡ list_any (λ (p : PowerLine). (p.node == v) && p.on && is_within b e p) (power_lines ls)
          → (((l.node == v) && turns_on a && nat_lt b l.frame && nat_le l.frame e) || rest)
          ≡ list_any (λ (p : PowerLine). (p.node == v) && p.on && is_within b e p) (cons_option (switched_by l a) (power_lines ls))
      by_act On again =
          grouped ((l.node == v) && true) (nat_lt b l.frame) (nat_le l.frame e) rest
          ∙ ap (λ (r : Bool). ((l.node == v) && true && (nat_lt b l.frame && nat_le l.frame e)) || r) again
      by_act Off again =
          grouped ((l.node == v) && false) (nat_lt b l.frame) (nat_le l.frame e) rest
          ∙ ap (λ (r : Bool). ((l.node == v) && false && (nat_lt b l.frame && nat_le l.frame e)) || r) again
      by_act (Declare i interval) again = passed (l.node == v) rest _ _ ∙ again
      by_act (Leave i) again = passed (l.node == v) rest _ _ ∙ again
      by_act (Put i payload) again = passed (l.node == v) rest _ _ ∙ again

pub has_off : (s : ScenarioParts) (b e v : ℕ)
    → has_line turns_off s b e v ≡ list_any (λ (p : PowerLine). (p.node == v) && not p.on && is_within b e p) (power_lines s.script)
has_off s b e v = has_off_in b e v s.script

pub has_on : (s : ScenarioParts) (b e v : ℕ)
    → has_line turns_on s b e v ≡ list_any (λ (p : PowerLine). (p.node == v) && p.on && is_within b e p) (power_lines s.script)
has_on s b e v = has_on_in b e v s.script

-- how often a node boots by some lines
boots_up : (a : Act) (t : Bool × ℕ) → t.1 ≤ (turned_by a t).1
boots_up On t = cond_both t.0 t.1 (t.1 + 1) (λ (n : ℕ). t.1 ≤ n) (λ on. omega arith) (λ off. omega arith)
boots_up Off t = omega arith
boots_up (Declare i interval) t = omega arith
boots_up (Leave i) t = omega arith
boots_up (Put i payload) t = omega arith

never_fewer : (t : Bool × ℕ) (ls : List ScriptLine) → t.1 ≤ (fold power_after_line t ls).1
never_fewer t [] = omega arith
never_fewer t (l ∷ ls) = omega (arith, boots_up l.act t, never_fewer (power_after_line t l) ls)

-- it was off before, or goes off, and is on after them
was_off : (t : Bool × ℕ) (ls : List ScriptLine) → t.0 ≡ false → (fold power_after_line t ls).0 ≡ true → t.1 < (fold power_after_line t ls).1
was_off t [] off on = absurd (false≢true (sym off ∙ on))
was_off t (l ∷ ls) off on = by_act l.act (λ u. was_off u ls) on
  where
    by_act : (a : Act) → ((u : Bool × ℕ) → u.0 ≡ false → (fold power_after_line u ls).0 ≡ true → u.1 < (fold power_after_line u ls).1)
        → (fold power_after_line (turned_by a t) ls).0 ≡ true → t.1 < (fold power_after_line (turned_by a t) ls).1
    by_act On again on =
        let up : (turned_by On t).1 ≡ t.1 + 1 = ap (λ (x : Bool). if x then t.1 else t.1 + 1) off in
        omega (arith, up, never_fewer (turned_by On t) ls)
    by_act Off again on = again (false, t.1) refl on
    by_act (Declare i interval) again on = again t off on
    by_act (Leave i) again on = again t off on
    by_act (Put i payload) again on = again t off on

goes_off : (t : Bool × ℕ) (ls : List ScriptLine) → list_any (λ l. turns_off l.act) ls ≡ true → (fold power_after_line t ls).0 ≡ true
    → t.1 < (fold power_after_line t ls).1
goes_off t [] some on = absurd (false≢true some)
goes_off t (l ∷ ls) some on = by_act l.act (λ u. goes_off u ls) some on
  where
    by_act : (a : Act) → ((u : Bool × ℕ) → list_any (λ (x : ScriptLine). turns_off x.act) ls ≡ true → (fold power_after_line u ls).0 ≡ true
        → u.1 < (fold power_after_line u ls).1)
        → (turns_off a || list_any (λ (x : ScriptLine). turns_off x.act) ls) ≡ true → (fold power_after_line (turned_by a t) ls).0 ≡ true
        → t.1 < (fold power_after_line (turned_by a t) ls).1
    by_act On again some on = omega (arith, boots_up On t, again (turned_by On t) some on)
    by_act Off again some on = was_off (false, t.1) ls refl on
    by_act (Declare i interval) again some on = again t some on
    by_act (Leave i) again some on = again t some on
    by_act (Put i payload) again some on = again t some on

-- it was on before, and does not go off
stays_on : (t : Bool × ℕ) (ls : List ScriptLine) → list_any (λ l. turns_off l.act) ls ≡ false → t.0 ≡ true → (fold power_after_line t ls).1 ≡ t.1
stays_on t [] none on = refl
stays_on t (l ∷ ls) none on = by_act l.act (λ u. stays_on u ls) none
  where
    by_act : (a : Act) → ((u : Bool × ℕ) → list_any (λ (x : ScriptLine). turns_off x.act) ls ≡ false → u.0 ≡ true → (fold power_after_line u ls).1 ≡ u.1)
        → (turns_off a || list_any (λ (x : ScriptLine). turns_off x.act) ls) ≡ false → (fold power_after_line (turned_by a t) ls).1 ≡ t.1
    by_act On again none = again (turned_by On t) none refl ∙ ap (λ (x : Bool). if x then t.1 else t.1 + 1) on
    by_act Off again none = absurd (false≢true (sym none))
    by_act (Declare i interval) again none = again t none on
    by_act (Leave i) again none = again t none on
    by_act (Put i payload) again none = again t none on

-- whether a node goes off in a frame
module _ (v b : ℕ) where
  kept : (x : Bool) (l : ScriptLine) (ls : List ScriptLine) → list_any (λ (y : ScriptLine). turns_off y.act) (if x then l ∷ ls else ls)
      ≡ ((x && turns_off l.act) || list_any (λ (y : ScriptLine). turns_off y.act) ls)
  kept true l ls = refl
  kept false l ls = refl

  off_again : (own now r : Bool) → (((own && now) && true) || r) ≡ ((own && true && now) || r)
  off_again true true r = refl
  off_again true false r = refl
  off_again false true r = refl
  off_again false false r = refl

  on_again : (own now r : Bool) → (((own && now) && false) || r) ≡ ((own && false && now) || r)
  on_again true true r = refl
  on_again true false r = refl
  on_again false true r = refl
  on_again false false r = refl

  neither : (own now r : Bool) → (((own && now) && false) || r) ≡ r
  neither true true r = refl
  neither true false r = refl
  neither false true r = refl
  neither false false r = refl

  off_lines : (ls : List ScriptLine) → list_any (λ (l : ScriptLine). turns_off l.act) (filter (λ (l : ScriptLine). (l.node == v) && (l.frame == b)) ls)
      ≡ goes_off_in (power_lines ls) v b
  off_lines [] = refl
  off_lines (l ∷ ls) =
      kept ((l.node == v) && (l.frame == b)) l (filter (λ (x : ScriptLine). (x.node == v) && (x.frame == b)) ls)
      ∙ ap (λ (r : Bool). (((l.node == v) && (l.frame == b)) && turns_off l.act) || r) (off_lines ls)
      ∙ by_act l.act
    where
      rest : Bool
      rest = goes_off_in (power_lines ls) v b

      by_act : (a : Act) → ((((l.node == v) && (l.frame == b)) && turns_off a) || rest)
          ≡ list_any (λ (p : PowerLine). (p.node == v) && not p.on && (p.frame == b)) (cons_option (switched_by l a) (power_lines ls))
      by_act On = on_again (l.node == v) (l.frame == b) rest
      by_act Off = off_again (l.node == v) (l.frame == b) rest
      by_act (Declare i interval) = neither (l.node == v) (l.frame == b) rest
      by_act (Leave i) = neither (l.node == v) (l.frame == b) rest
      by_act (Put i payload) = neither (l.node == v) (l.frame == b) rest

module _ (s : ScenarioParts) (ascends : AllPairs (λ (a b : ScriptLine). a.frame ≤ b.frame) s.script) where
  pub on_in : (f v : ℕ) → is_on_in s f v ≡ is_on_before (power_lines s.script) v (f + 1)
  on_in f v = on_before s ascends (suc f) v ∙ ap (is_on_before (power_lines s.script) v) (sym (add-one f))

  -- a boot is one by the laws, and there are no others
  pub boots_is : (b v : ℕ) → boots_in (power_lines s.script) v b ≡ true → BootsIn s b v
  unfolding power_before
  boots_is b v is =
      let ls = power_lines s.script in
      let parts = and_parts (is_on_before ls v (b + 1)) (not (is_on_before ls v b) || goes_off_in ls v b) is in
      let on : is_on_in s b v ≡ true = on_in b v ∙ parts.0 in
      record {
        boots = elim (or_cases (not (is_on_before ls v b)) (goes_off_in ls v b) parts.1) [
          | inl off ↦ was_off (power_before s b v) (lines_of s b v) (on_before s ascends b v ∙ not-true (is_on_before ls v b) off) on
          | inr goes ↦ goes_off (power_before s b v) (lines_of s b v) (off_lines v b s.script ∙ goes) on
        ];
        on = on;
      }

  pub boots_back : (b v : ℕ) → boots_in (power_lines s.script) v b ≡ false → BootsIn s b v → ⊥
  unfolding power_before
  boots_back b v none is = by_cases (is_on_before ls v (b + 1)) (is_on_before ls v b) (goes_off_in ls v b) refl refl refl
    where
      ls : List PowerLine
      ls = power_lines s.script

      by_cases : (now was goes : Bool) → is_on_before ls v (b + 1) ≡ now → is_on_before ls v b ≡ was → goes_off_in ls v b ≡ goes → ⊥
      by_cases false was goes so before off = false≢true (sym so ∙ sym (on_in b v) ∙ is.on)
      by_cases true false goes so before off = false≢true (sym none ∙ rw (so, before) refl)
      by_cases true true true so before off = false≢true (sym none ∙ rw (so, before, off) refl)
      by_cases true true false so before off =
          let same = stays_on (power_before s b v) (lines_of s b v) (off_lines v b s.script ∙ off) (on_before s ascends b v ∙ before) in
          let more = is.boots in
          absurd (omega (arith, same, more))
