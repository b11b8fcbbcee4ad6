-- How often each node boots along a script, by lists over all ids.
use Rattle.std.proofs.Common.{◌≡◌, ℕ, ◌+◌, ◌<◌, ◌≤◌, List, [], ◌∷◌, ◌++◌, Bool, false, if◌then◌else◌, ◌==◌}
use Rattle.std.proofs.Common.{length, take, drop, get_or, refl, sym, ◌∙◌, ap, arith, inl, inr}
use Rattle.std.proofs.lemmas.Bool.{cond-true, cases_lt, eq-eqb}
use Rattle.std.proofs.lemmas.List.{get_or-replicate, get_or_past, take_more, take-append-drop}
use Rattle.std.specs.Prelude.{replicate}
use Rattle.scenario_text.specs.AddedLines.{boots_so_far}
use Rattle.scenario_text.specs.ScenarioFacts.{turned_by, turned}
use Rattle.scenario_text.specs.declared.script.ScriptLine.{ScriptLine}
use Rattle.scenario_text.proofs.BootsCounted.{never_less}

-- whether a node is on, and how often it booted
abbrev pub Boots : Type 0
Boots = Bool × ℕ

either_way : {A : Type 0} (l : List A) (d : A) (i : ℕ) → ((k : ℕ) → k < 201 → get_or l k d ≡ d) → length l ≡ 201 → get_or l i d ≡ d
either_way l d i within long = elim (cases_lt i 201) [ inl below ↦ within i below | inr past ↦ get_or_past l i d (omega (arith, long, past)) ]

pub none_told : (v : ℕ) → boots_so_far (replicate 201 false) (replicate 201 0) v ≡ (false, 0)
none_told v =
    let on : get_or (replicate 201 false) v false ≡ false = either_way (replicate 201 false) false v (λ i. get_or-replicate 201 i false false) refl in
    let count : get_or (replicate 201 0) v 0 ≡ 0 = either_way (replicate 201 0) 0 v (λ i. get_or-replicate 201 i 0 0) refl in
    ap (λ (b : Bool). (b, get_or (replicate 201 0) v 0)) on ∙ ap (λ (n : ℕ). (false, n)) count

-- a line more
pub turned_more : (v : ℕ) (t : Bool × ℕ) (xs : List ScriptLine) (x : ScriptLine)
    → turned v t (xs ++ x ∷ []) ≡ (if x.node == v then turned_by x.act (turned v t xs) else turned v t xs)
turned_more v t [] x = refl
turned_more v t (y ∷ xs) x = turned_more v (if y.node == v then turned_by y.act t else t) xs x

pub turned_over : (v : ℕ) (t : Bool × ℕ) (xs ys : List ScriptLine) → turned v t (xs ++ ys) ≡ turned v (turned v t xs) ys
turned_over v t [] ys = refl
turned_over v t (x ∷ xs) ys = turned_over v (if x.node == v then turned_by x.act t else t) xs ys

pub told_more : (v : ℕ) (script : List ScriptLine) (i : ℕ) (x : ScriptLine) (old new : Bool × ℕ) → i < length script → x ≡ get_or script i x
    → old ≡ turned v (false, 0) (take i script) → new ≡ (if x.node == v then turned_by x.act old else old)
    → new ≡ turned v (false, 0) (take (i + 1) script)
told_more v script i x old new below at is so =
    let more : take (i + 1) script ≡ take i script ++ x ∷ [] = take_more script i x below ∙ ap (λ (y : ScriptLine). take i script ++ y ∷ []) (sym at) in
    so ∙ ap (λ (t : Bool × ℕ). if x.node == v then turned_by x.act t else t) is
    ∙ sym (ap (turned v (false, 0)) more ∙ turned_more v (false, 0) (take i script) x)

-- what boots too often so far does so by the whole script
pub too_many : (script : List ScriptLine) (i : ℕ) (x : ScriptLine) (old : Bool × ℕ) → i < length script → x ≡ get_or script i x
    → old ≡ turned x.node (false, 0) (take i script) → 200 < (turned_by x.act old).1
    → ((v : ℕ) → (turned v (false, 0) script).1 ≤ 200) → ⊥
too_many script i x old below at is many few =
    let v : ℕ = x.node in
    let here : (if v == v then turned_by x.act old else old) ≡ turned_by x.act old = cond-true (v == v) (turned_by x.act old) old (eq-eqb v v refl) in
    let so : turned_by x.act old ≡ turned v (false, 0) (take (i + 1) script) =
    sym here ∙ told_more v script i x old (if v == v then turned_by x.act old else old) below at is refl in
    let whole : script ≡ take (i + 1) script ++ drop (i + 1) script = sym (take-append-drop (i + 1) script) in
    let less = never_less v (turned v (false, 0) (take (i + 1) script)) (drop (i + 1) script) in
    let all : turned v (false, 0) script ≡ turned v (turned v (false, 0) (take (i + 1) script)) (drop (i + 1) script) =
    ap (turned v (false, 0)) whole ∙ turned_over v (false, 0) (take (i + 1) script) (drop (i + 1) script) in
    let one = ap (λ (t : Bool × ℕ). t.1) so in
    let two = ap (λ (t : Bool × ℕ). t.1) all in
    omega (arith, many, few v, less, one, two)
