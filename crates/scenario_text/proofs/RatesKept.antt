-- The rates of clocks: a rate more, and the rates of each node in turn.
use Rattle.std.proofs.Common.{◌≡◌, ℕ, zero, suc, ◌<◌, ◌≤◌, List, [], ◌∷◌, ◌++◌, Bool, true, false, ◌||◌, ◌==◌, nat_lt, cond}
use Rattle.std.proofs.Common.{Option, Some, None, IfSome, reverse, filter, refl, sym, ◌∙◌, ap, subst, arith}
use Rattle.std.proofs.lemmas.Bool.{cond-true, cond-false, cond_both, ltb-true, eqb-true, true≢false, ne_eqb, eq-eqb}
use Rattle.std.proofs.lemmas.List.{reverse-append, append-nil}
use Rattle.std.proofs.lemmas.List.Elements.{All-from_recursion, filter-append}
use Rattle.std.proofs.lemmas.List.Folds.{find-append}
use Rattle.std.proofs.lemmas.List.Kept.{AllPairs-cons}
use Rattle.std.specs.List.{AllByRecursion, AllPairs, find}
use Rattle.std.specs.Int.RustNames.{unsigned_abs}
use Rattle.std.specs.Option.{option_or, option_map_or}
use Rattle.lwb_base.proofs.Lists.{each_append}
use Rattle.scenario_text.specs.FloodParts.{knows}
use Rattle.scenario_text.specs.Network.{last_rate, rates_by_node, ppm}
use Rattle.scenario_text.specs.FloodDrafts.{Climbs, Rises, RatesBeginLater}
use Rattle.scenario_text.specs.declared.lines.NodeLine.{NodeLine}
use Rattle.scenario_text.specs.declared.lines.RateLine.{RateLine}

abbrev pub is_of : ℕ → RateLine → Bool
is_of i r = r.node == i

-- the last of the others, or the first
last_more : (r : RateLine) (rs : List RateLine) (i : ℕ) → last_rate (r ∷ rs) i ≡ option_or (last_rate rs i) (cond (is_of i r) (Some r) None)
last_more r rs i = ap (find (is_of i)) (reverse-append (r ∷ []) rs) ∙ find-append (is_of i) (reverse rs) (reverse (r ∷ []))

-- what holds of all holds of the last
pub last_holds : (P : RateLine → Type 0) (i : ℕ) (rs : List RateLine) → AllByRecursion P rs → IfSome (last_rate rs i) P
last_holds P i [] all = tt
last_holds P i (r ∷ rs) all = subst (λ (o : Option RateLine). IfSome o P) (sym (last_more r rs i)) (either (last_rate rs i) (last_holds P i rs all.1))
  where
    either : (o : Option RateLine) → IfSome o P → IfSome (option_or o (cond (is_of i r) (Some r) None)) P
    either (Some l) holds = holds
    either None holds = here (is_of i r)
      where
        here : (b : Bool) → IfSome (cond b (Some r) None) P
        here true = all.0
        here false = tt

-- and is of the node
pub last_of : (rs : List RateLine) (i : ℕ) → IfSome (last_rate rs i) (λ r. r.node ≡ i)
last_of [] i = tt
last_of (r ∷ rs) i = subst (λ (o : Option RateLine). IfSome o (λ r. r.node ≡ i)) (sym (last_more r rs i)) (either (last_rate rs i) (last_of rs i))
  where
    either : (o : Option RateLine) → IfSome o (λ r. r.node ≡ i) → IfSome (option_or o (cond (is_of i r) (Some r) None)) (λ r. r.node ≡ i)
    either (Some l) is = is
    either None is = cond_both (is_of i r) (Some r) None (λ (o : Option RateLine). IfSome o (λ r. r.node ≡ i)) (λ here. eqb-true r.node i here) (λ other. tt)

-- the last rate of a node begins last, if it has any
abbrev Tops : Option RateLine → ℕ → List RateLine → Type 0
Tops None i rs = AllByRecursion (λ r. r.node ≡ i → ⊥) rs
Tops (Some l) i rs = (l.node ≡ i) × AllByRecursion (λ r. r.node ≡ i → r.from ≤ l.from) rs

pub map_all : {X : Type 0} (P Q : X → Type 0) (xs : List X) → ((x : X) → P x → Q x) → AllByRecursion P xs → AllByRecursion Q xs
map_all P Q [] f all = tt
map_all P Q (x ∷ xs) f all = (f x all.0, map_all P Q xs f all.1)

tops : (i : ℕ) (rs : List RateLine) → RatesBeginLater rs → Tops (last_rate rs i) i rs
tops i [] follows = tt
tops i (r ∷ rs) follows =
    subst (λ (o : Option RateLine). Tops o i (r ∷ rs)) (sym (last_more r rs i))
    (either (last_rate rs i) (last_holds (λ s. r.node ≡ s.node → r.from < s.from) i rs follows.0) (tops i rs follows.1))
  where
    either : (o : Option RateLine) → IfSome o (λ s. r.node ≡ s.node → r.from < s.from) → Tops o i rs
        → Tops (option_or o (cond (is_of i r) (Some r) None)) i (r ∷ rs)
    either (Some l) later top = (top.0, ((λ is. let lt = later (is ∙ sym top.0) in omega (arith, lt)), top.1))
    either None later none = here (is_of i r) refl
      where
        here : (b : Bool) → is_of i r ≡ b → Tops (cond b (Some r) None) i (r ∷ rs)
        here true is = (
          eqb-true r.node i is,
          (
            (λ same. omega arith),
            map_all (λ s. s.node ≡ i → ⊥) (λ s. s.node ≡ i → s.from ≤ r.from) rs (λ s not same. absurd (not same)) none,
          ),
        )
        here false is = ((λ same. true≢false (sym (eq-eqb r.node i same) ∙ is)), none)

pub later_all : (rs : List RateLine) (i t : ℕ) → RatesBeginLater rs → option_map_or (λ r. nat_lt r.from t) (last_rate rs i) true ≡ true
    → AllByRecursion (λ r. r.node ≡ i → r.from < t) rs
later_all rs i t follows above = by_last (last_rate rs i) (tops i rs follows) above
  where
    by_last : (o : Option RateLine) → Tops o i rs → option_map_or (λ r. nat_lt r.from t) o true ≡ true → AllByRecursion (λ r. r.node ≡ i → r.from < t) rs
    by_last None none above = map_all (λ r. r.node ≡ i → ⊥) (λ r. r.node ≡ i → r.from < t) rs (λ r not same. absurd (not same)) none
    by_last (Some l) top above =
        let lt = ltb-true l.from t above in
        map_all (λ r. r.node ≡ i → r.from ≤ l.from) (λ r. r.node ≡ i → r.from < t) rs (λ r le same. let early = le same in omega (arith, lt, early)) top.1

pub climbs_more : {X : Type 0} (R : X → X → Type 0) (xs : List X) (x : X) → Climbs R xs → AllByRecursion (λ y. R y x) xs → Climbs R (xs ++ x ∷ [])
climbs_more R [] x climbs all = (tt, tt)
climbs_more R (y ∷ xs) x climbs all = (each_append (R y) xs (x ∷ []) climbs.0 (all.0, tt), climbs_more R xs x climbs.1 all.1)

-- those that pass
pub all_filter : {X : Type 0} (P : X → Type 0) (p : X → Bool) (xs : List X) → AllByRecursion P xs → AllByRecursion P (filter p xs)
all_filter P p [] all = tt
all_filter P p (x ∷ xs) all = cond_both (p x) (x ∷ filter p xs) (filter p xs) (AllByRecursion P) (λ is. (all.0, all_filter P p xs all.1))
    (λ not. all_filter P p xs all.1)

-- what holds of each rate holds of those of each node in turn
pub all_by_node : (P : RateLine → Type 0) (ns : List NodeLine) (rs : List RateLine) → AllByRecursion P rs → AllByRecursion P (rates_by_node ns rs)
all_by_node P [] rs all = tt
all_by_node P (n ∷ ns) rs all = each_append P (filter (is_of n.node) rs) (rates_by_node ns rs) (all_filter P (is_of n.node) rs all) (all_by_node P ns rs all)

-- the rates of one node ascend
passing_later : (i : ℕ) (s : RateLine) (rs : List RateLine) → s.node ≡ i → AllByRecursion (λ t. s.node ≡ t.node → s.from < t.from) rs
    → AllByRecursion (λ t. s.from < t.from) (filter (is_of i) rs)
passing_later i s [] is all = tt
passing_later i s (r ∷ rs) is all =
    cond_both (is_of i r) (r ∷ filter (is_of i) rs) (filter (is_of i) rs) (AllByRecursion (λ t. s.from < t.from))
    (λ same. (all.0 (is ∙ sym (eqb-true r.node i same)), passing_later i s rs is all.1)) (λ other. passing_later i s rs is all.1)

pub one_ascends : (i : ℕ) (rs : List RateLine) → RatesBeginLater rs → AllPairs (λ a b. a.from < b.from) (filter (is_of i) rs)
one_ascends i [] follows = λ k j d before within. absurd (omega arith)
one_ascends i (r ∷ rs) follows =
    cond_both (is_of i r) (r ∷ filter (is_of i) rs) (filter (is_of i) rs) (AllPairs (λ a b. a.from < b.from))
    (λ same.
    AllPairs-cons (λ a b. a.from < b.from) r (filter (is_of i) rs)
    (All-from_recursion (λ (t : RateLine). r.from < t.from) (filter (is_of i) rs) (passing_later i r rs (eqb-true r.node i same) follows.0))
    (one_ascends i rs follows.1))
    (λ other. one_ascends i rs follows.1)

-- the rates of one node, among the rates of each node in turn
filter_same : (i : ℕ) (rs : List RateLine) → filter (is_of i) (filter (is_of i) rs) ≡ filter (is_of i) rs
filter_same i [] = refl
filter_same i (r ∷ rs) =
    let fs : List RateLine = filter (is_of i) rs in
    cond_both (is_of i r) (r ∷ fs) fs (λ (l : List RateLine). filter (is_of i) l ≡ l)
    (λ same. cond-true (is_of i r) (r ∷ filter (is_of i) fs) (filter (is_of i) fs) same ∙ ap (λ (l : List RateLine). r ∷ l) (filter_same i rs))
    (λ other. filter_same i rs)

filter_other : (i j : ℕ) (rs : List RateLine) → (i == j) ≡ false → filter (is_of j) (filter (is_of i) rs) ≡ []
filter_other i j [] differ = refl
filter_other i j (r ∷ rs) differ =
    let fs : List RateLine = filter (is_of i) rs in
    cond_both (is_of i r) (r ∷ fs) fs (λ (l : List RateLine). filter (is_of j) l ≡ [])
    (λ same.
    let not : is_of j r ≡ false = ap (λ (v : ℕ). v == j) (eqb-true r.node i same) ∙ differ in
    cond-false (is_of j r) (r ∷ filter (is_of j) fs) (filter (is_of j) fs) not ∙ filter_other i j rs differ)
    (λ other. filter_other i j rs differ)

pub above_unknown : (n : NodeLine) (ns : List NodeLine) → AllByRecursion (λ m. n.node < m.node) ns → knows ns n.node ≡ false
above_unknown n [] all = refl
above_unknown n (m ∷ ns) all =
    let first = all.0 in
    rw (ne_eqb m.node n.node (λ same. omega (arith, first, same))) (above_unknown n ns all.1)

pub of_node : (ns : List NodeLine) (rs : List RateLine) (i : ℕ) → Rises ns → filter (is_of i) (rates_by_node ns rs) ≡ cond (knows ns i) (filter (is_of i) rs) []
of_node [] rs i rises = refl
of_node (n ∷ ns) rs i rises = filter-append (is_of i) (filter (is_of n.node) rs) (rates_by_node ns rs) ∙ either (n.node == i) refl (of_node ns rs i rises.1)
  where
    either : (b : Bool) → (n.node == i) ≡ b → filter (is_of i) (rates_by_node ns rs) ≡ cond (knows ns i) (filter (is_of i) rs) []
        → filter (is_of i) (filter (is_of n.node) rs) ++ filter (is_of i) (rates_by_node ns rs) ≡ cond (b || knows ns i) (filter (is_of i) rs) []
    either true same others =
        let is = eqb-true n.node i same in
        let unknown : knows ns i ≡ false = ap (knows ns) (sym is) ∙ above_unknown n ns rises.0 in
        let rest : filter (is_of i) (rates_by_node ns rs) ≡ [] = others ∙ cond-false (knows ns i) (filter (is_of i) rs) [] unknown in
        ap (λ (v : ℕ). filter (is_of i) (filter (is_of v) rs) ++ filter (is_of i) (rates_by_node ns rs)) is
        ∙ ap (λ (l : List RateLine). filter (is_of i) (filter (is_of i) rs) ++ l) rest
        ∙ append-nil (filter (is_of i) (filter (is_of i) rs)) ∙ filter_same i rs
    either false other others = ap (λ (l : List RateLine). l ++ filter (is_of i) (rates_by_node ns rs)) (filter_other n.node i rs other) ∙ others

pub each_ascends : (ns : List NodeLine) (rs : List RateLine) (i : ℕ) → Rises ns → RatesBeginLater rs
    → AllPairs (λ a b. a.from < b.from) (filter (is_of i) (rates_by_node ns rs))
each_ascends ns rs i rises follows =
    subst (AllPairs (λ a b. a.from < b.from)) (sym (of_node ns rs i rises))
    (cond_both (knows ns i) (filter (is_of i) rs) [] (AllPairs (λ a b. a.from < b.from)) (λ known. one_ascends i rs follows)
    (λ unknown k j d before within. absurd (omega arith)))

-- this many millionths
pub ppm_small : (slow : Bool) (p : ℕ) → p ≤ 20 → unsigned_abs (ppm slow p) ≤ 20
ppm_small true zero few = few
ppm_small true (suc p) few = few
ppm_small false p few = few
