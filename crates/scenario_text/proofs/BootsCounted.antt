-- How often each node boots along a script.
use Rattle.std.proofs.Common.{◌≡◌, ℕ, ◌+◌, ◌<◌, ◌≤◌, List, [], ◌∷◌, Bool, true, false, if◌then◌else◌, ◌==◌}
use Rattle.std.proofs.Common.{nat_lt, length, set, get_or, refl, sym, ◌∙◌, ap, subst, arith, inl, inr}
use Rattle.std.proofs.lemmas.Bool.{cond_both, cond-true, cases_lt, or_cases, or_left, or_right, eq-eqb, eqb-true, eqb-false, lt-ltb, ltb-true, both_ways}
use Rattle.std.proofs.lemmas.List.{get_or-set_same, get_or-set_other, length-set, get_or-replicate, get_or_past}
use Rattle.std.specs.Prelude.{replicate}
use Rattle.std.specs.List.{AllByRecursion, slice_index, slice_index_or}
use Rattle.scenario_text.specs.ScenarioFacts.{turned_by, turned}
use Rattle.bus_rules.specs.declared.act.Act.{Act}
use Rattle.bus_rules.specs.declared.act.Act.TheVariants.{On, Off, Declare, Leave, Put}
use Rattle.scenario_text.specs.declared.script.ScriptLine.{ScriptLine}
use Rattle.scenario_text.proofs.CanonicalFacts.{Power, no_power, after_act, can_boot, Boots}

-- what the lists of all ids say of one node
record Tells (w : Power) (v : ℕ) (s : Bool × ℕ) : Type 0 where
  on : slice_index_or w.on v false ≡ s.0
  boots : slice_index w.boots v ≡ s.1

record IsLong (w : Power) : Type 0 where
  on : length w.on ≡ 201
  boots : length w.boots ≡ 201

set_here : {A : Type 0} (l : List A) (i v : ℕ) (a d : A) → i ≡ v → i < length l → get_or (set l i a) v d ≡ a
set_here l i v a d is below = ap (λ (x : ℕ). get_or (set l i a) x d) (sym is) ∙ get_or-set_same l i a d below

set_there : {A : Type 0} (l : List A) (i v : ℕ) (a d : A) → (i ≡ v → ⊥) → get_or (set l i a) v d ≡ get_or l v d
set_there l i v a d differ = get_or-set_other l i v a d (λ same. differ (sym same))

long_after : (w : Power) (i : ℕ) (a : Act) → IsLong w → IsLong (after_act w i a)
long_after w i On long = record { on = length-set w.on i true ∙ long.on; boots = length-set w.boots i _ ∙ long.boots }
long_after w i Off long = record { on = length-set w.on i false ∙ long.on; boots = long.boots }
long_after w i (Declare x y) long = long
long_after w i (Leave x) long = long
long_after w i (Put x b) long = long

still : (b : Bool) (w : Power) (v : ℕ) (s : Bool × ℕ) → Tells w v s → Tells w v (if b then s else s)
still true w v s tells = tells
still false w v s tells = tells

tells_after : (w : Power) (v i : ℕ) (a : Act) (s : Bool × ℕ) → IsLong w → i ≤ 200 → Tells w v s
    → Tells (after_act w i a) v (if i == v then turned_by a s else s)
tells_after w v i On s long small tells =
    let count : ℕ = if slice_index_or w.on i false then slice_index w.boots i else slice_index w.boots i + 1 in
    cond_both (i == v) (turned_by On s) s (Tells (after_act w i On) v)
    (λ same.
    let is = eqb-true i v same in
    let on : slice_index_or w.on i false ≡ s.0 = ap (λ (x : ℕ). slice_index_or w.on x false) is ∙ tells.on in
    let boots : slice_index w.boots i ≡ s.1 = ap (slice_index w.boots) is ∙ tells.boots in
    let long_on = long.on in
    let long_boots = long.boots in
    record {
      on = set_here w.on i v true false is (omega (arith, small, long_on));
      boots = set_here w.boots i v count 0 is (omega (arith, small, long_boots)) ∙ ap (λ (b : Bool). if b then slice_index w.boots i
          else slice_index w.boots i + 1) on ∙ ap (λ (n : ℕ). if s.0 then n else n + 1) boots;
    })
    (λ other.
    let differ = eqb-false i v other in
    record { on = set_there w.on i v true false differ ∙ tells.on; boots = set_there w.boots i v count 0 differ ∙ tells.boots })
tells_after w v i Off s long small tells =
    cond_both (i == v) (turned_by Off s) s (Tells (after_act w i Off) v)
    (λ same. let long_on = long.on in record { on = set_here w.on i v false false (eqb-true i v same) (omega (arith, small, long_on)); boots = tells.boots })
    (λ other. record { on = set_there w.on i v false false (eqb-false i v other) ∙ tells.on; boots = tells.boots })
tells_after w v i (Declare x y) s long small tells = still (i == v) w v s tells
tells_after w v i (Leave x) s long small tells = still (i == v) w v s tells
tells_after w v i (Put x b) s long small tells = still (i == v) w v s tells

same_count : (b : Bool) (s : Bool × ℕ) → s.1 ≤ 200 → (if b then s else s).1 ≤ 200
same_count true s few = few
same_count false s few = few

few_after : (w : Power) (v i : ℕ) (a : Act) (s : Bool × ℕ) → Tells w v s → can_boot w i a ≡ true → s.1 ≤ 200 → (if i == v then turned_by a s else s).1 ≤ 200
few_after w v i On s tells can few =
    cond_both (i == v) (turned_by On s) s (λ (t : Bool × ℕ). t.1 ≤ 200)
    (λ same.
    let is = eqb-true i v same in
    let on : slice_index_or w.on i false ≡ s.0 = ap (λ (x : ℕ). slice_index_or w.on x false) is ∙ tells.on in
    let boots : slice_index w.boots i ≡ s.1 = ap (slice_index w.boots) is ∙ tells.boots in
    cond_both s.0 s.1 (s.1 + 1) (λ (n : ℕ). n ≤ 200) (λ powered. few)
    (λ off.
    elim (or_cases (slice_index_or w.on i false) (nat_lt (slice_index w.boots i) 200) can) [
      | inl powered ↦ absurd (both_ways s.0 off (sym on ∙ powered))
      | inr below ↦ let lt = ltb-true (slice_index w.boots i) 200 below in omega (arith, boots, lt)
    ]))
    (λ other. few)
few_after w v i Off s tells can few = cond_both (i == v) (turned_by Off s) s (λ (t : Bool × ℕ). t.1 ≤ 200) (λ same. few) (λ other. few)
few_after w v i (Declare x y) s tells can few = same_count (i == v) s few
few_after w v i (Leave x) s tells can few = same_count (i == v) s few
few_after w v i (Put x b) s tells can few = same_count (i == v) s few

few_along : (w : Power) (v : ℕ) (s : Bool × ℕ) (ls : List ScriptLine) → IsLong w → Tells w v s → s.1 ≤ 200
    → AllByRecursion (λ l. l.node ≤ 200) ls → Boots w ls → (turned v s ls).1 ≤ 200
few_along w v s [] long tells few small boots = few
few_along w v s (l ∷ ls) long tells few small boots =
    few_along (after_act w l.node l.act) v (if l.node == v then turned_by l.act s else s) ls (long_after w l.node l.act long)
    (tells_after w v l.node l.act s long small.0 tells)
    (few_after w v l.node l.act s tells boots.0 few) small.1 boots.1

none_first : (v : ℕ) → Tells no_power v (false, 0)
none_first v = record {
  on = either_way (replicate 201 false) false v (λ i. get_or-replicate 201 i false false) refl;
  boots = either_way (replicate 201 0) 0 v (λ i. get_or-replicate 201 i 0 0) refl;
}
  where
    either_way : {A : Type 0} (l : List A) (d : A) (i : ℕ) → ((k : ℕ) → k < 201 → get_or l k d ≡ d) → length l ≡ 201 → get_or l i d ≡ d
    either_way l d i within long = elim (cases_lt i 201) [ inl below ↦ within i below | inr past ↦ get_or_past l i d (omega (arith, long, past)) ]

-- no node boots more than 200 times
pub few_boots : (v : ℕ) (ls : List ScriptLine) → AllByRecursion (λ l. l.node ≤ 200) ls → Boots no_power ls → (turned v (false, 0) ls).1 ≤ 200
few_boots v ls small boots = few_along no_power v (false, 0) ls (record { on = refl; boots = refl }) (none_first v) (omega arith) small boots

-- and where none does, each line of the script may boot its node
more_turned : (a : Act) (s : Bool × ℕ) → s.1 ≤ (turned_by a s).1
more_turned On s = cond_both s.0 s.1 (s.1 + 1) (λ (n : ℕ). s.1 ≤ n) (λ is. omega arith) (λ not. omega arith)
more_turned Off s = omega arith
more_turned (Declare x y) s = omega arith
more_turned (Leave x) s = omega arith
more_turned (Put x b) s = omega arith

pub never_less : (v : ℕ) (s : Bool × ℕ) (ls : List ScriptLine) → s.1 ≤ (turned v s ls).1
never_less v s [] = omega arith
never_less v s (l ∷ ls) =
    let here : s.1 ≤ (if l.node == v then turned_by l.act s else s).1 =
    cond_both (l.node == v) (turned_by l.act s) s (λ (t : Bool × ℕ). s.1 ≤ t.1) (λ is. more_turned l.act s) (λ not. omega arith) in
    omega (arith, here, never_less v (if l.node == v then turned_by l.act s else s) ls)

may_boot : (w : Power) (i : ℕ) (a : Act) (s : Bool × ℕ) → Tells w i s → (turned_by a s).1 ≤ 200 → can_boot w i a ≡ true
may_boot w i On s tells few = by_power s.0 refl
  where
    by_power : (b : Bool) → s.0 ≡ b → can_boot w i On ≡ true
    by_power true on = or_left (slice_index_or w.on i false) (nat_lt (slice_index w.boots i) 200) (tells.on ∙ on)
    by_power false off =
        let below : (if s.0 then s.1 else s.1 + 1) ≡ s.1 + 1 = ap (λ (b : Bool). if b then s.1 else s.1 + 1) off in
        let boots = tells.boots in
        or_right (slice_index_or w.on i false) (nat_lt (slice_index w.boots i) 200) (lt-ltb (slice_index w.boots i) 200 (omega (arith, below, boots, few)))
may_boot w i Off s tells few = refl
may_boot w i (Declare x y) s tells few = refl
may_boot w i (Leave x) s tells few = refl
may_boot w i (Put x b) s tells few = refl

boots_along : (w : Power) (s : ℕ → Bool × ℕ) (ls : List ScriptLine) → IsLong w → ((v : ℕ) → Tells w v (s v)) → AllByRecursion (λ l. l.node ≤ 200) ls
    → ((v : ℕ) → (turned v (s v) ls).1 ≤ 200) → Boots w ls
boots_along w s [] long tells small few = tt
boots_along w s (l ∷ ls) long tells small few =
    let i : ℕ = l.node in
    let here : (if i == i then turned_by l.act (s i) else s i) ≡ turned_by l.act (s i) = cond-true (i == i) (turned_by l.act (s i)) (s i) (eq-eqb i i refl) in
    let all : (turned_by l.act (s i)).1 ≤ (turned i (turned_by l.act (s i)) ls).1 = never_less i (turned_by l.act (s i)) ls in
    let whole : (turned i (turned_by l.act (s i)) ls).1 ≤ 200 = subst (λ (t : Bool × ℕ). (turned i t ls).1 ≤ 200) here (few i) in (
      may_boot w i l.act (s i) (tells i) (omega (arith, all, whole)),
      boots_along (after_act w i l.act) (λ v. if i == v then turned_by l.act (s v) else s v) ls (long_after w i l.act long)
          (λ v. tells_after w v i l.act (s v) long small.0 (tells v)) small.1 few,
    )

pub boots_from : (ls : List ScriptLine) → AllByRecursion (λ l. l.node ≤ 200) ls → ((v : ℕ) → (turned v (false, 0) ls).1 ≤ 200) → Boots no_power ls
boots_from ls small few = boots_along no_power (λ v. (false, 0)) ls (record { on = refl; boots = refl }) none_first small few
