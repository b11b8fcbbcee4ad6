-- The rates of each node in turn, taken in turn again.
use Rattle.std.proofs.Common.{◌≡◌, ℕ, ◌+◌, ◌<◌, List, [], ◌∷◌, ◌++◌, Bool, true, false, ◌||◌, ◌==◌, length, filter, refl, sym, ◌∙◌, ap, arith}
use Rattle.std.proofs.lemmas.Bool.{cond-true, cond-false, cond_both, or_left, or_right, or_parts, eq-eqb, eqb-true, eqb-false, ne_eqb, false≢true}
use Rattle.std.proofs.lemmas.List.{length-append}
use Rattle.std.specs.List.{AllByRecursion}
use Rattle.lwb_base.proofs.Lists.{each_append}
use Rattle.scenario_text.specs.FloodParts.{knows}
use Rattle.scenario_text.specs.FloodDrafts.{Climbs, Rises, RatesBeginLater}
use Rattle.scenario_text.specs.Network.{rates_by_node}
use Rattle.scenario_text.specs.declared.lines.NodeLine.{NodeLine}
use Rattle.scenario_text.specs.declared.lines.RateLine.{RateLine}
use Rattle.scenario_text.proofs.RatesKept.{is_of, map_all, all_filter, of_node, above_unknown}

-- each node is known
pub all_known : (ns : List NodeLine) → AllByRecursion (λ n. knows ns n.node ≡ true) ns
all_known [] = tt
all_known (n ∷ ns) = (
  or_left (n.node == n.node) (knows ns n.node) (eq-eqb n.node n.node refl),
  map_all (λ m. knows ns m.node ≡ true) (λ m. knows (n ∷ ns) m.node ≡ true) ns (λ m known. or_right (n.node == m.node) (knows ns m.node) known) (all_known ns),
)

same_again : (ns ms : List NodeLine) (rs : List RateLine) → Rises ns → AllByRecursion (λ m. knows ns m.node ≡ true) ms
    → rates_by_node ms (rates_by_node ns rs) ≡ rates_by_node ms rs
same_again ns [] rs rises known = refl
same_again ns (m ∷ ms) rs rises known =
    let here : filter (is_of m.node) (rates_by_node ns rs) ≡ filter (is_of m.node) rs = of_node ns rs m.node rises
    ∙ cond-true (knows ns m.node) (filter (is_of m.node) rs) [] known.0 in
    ap (λ (l : List RateLine). l ++ rates_by_node ms (rates_by_node ns rs)) here
    ∙ ap (λ (l : List RateLine). filter (is_of m.node) rs ++ l) (same_again ns ms rs rises known.1)

pub in_turn_again : (ns : List NodeLine) (rs : List RateLine) → Rises ns → rates_by_node ns (rates_by_node ns rs) ≡ rates_by_node ns rs
in_turn_again ns rs rises = same_again ns ns rs rises (all_known ns)

-- they are as many
pub unknown_rate : (ns : List NodeLine) (r : RateLine) (rs : List RateLine) → knows ns r.node ≡ false → rates_by_node ns (r ∷ rs) ≡ rates_by_node ns rs
unknown_rate [] r rs unknown = refl
unknown_rate (n ∷ ns) r rs unknown =
    let p = or_parts (n.node == r.node) (knows ns r.node) unknown in
    let differ : is_of n.node r ≡ false = ne_eqb r.node n.node (λ same. eqb-false n.node r.node p.0 (sym same)) in
    ap (λ (l : List RateLine). l ++ rates_by_node ns (r ∷ rs)) (cond-false (is_of n.node r) (r ∷ filter (is_of n.node) rs) (filter (is_of n.node) rs) differ)
    ∙ ap (λ (l : List RateLine). filter (is_of n.node) rs ++ l) (unknown_rate ns r rs p.1)

pub none_left : (ns : List NodeLine) → rates_by_node ns [] ≡ []
none_left [] = refl
none_left (n ∷ ns) = none_left ns

one_known : (ns : List NodeLine) (r : RateLine) (rs : List RateLine) → Rises ns → knows ns r.node ≡ true
    → length (rates_by_node ns (r ∷ rs)) ≡ length (rates_by_node ns rs) + 1
one_known [] r rs rises known = absurd (false≢true known)
one_known (n ∷ ns) r rs rises known =
    let fs : List RateLine = filter (is_of n.node) rs in
    let before = length-append fs (rates_by_node ns rs) in
    cond_both (is_of n.node r) (r ∷ fs) fs (λ (l : List RateLine). length (l ++ rates_by_node ns (r ∷ rs)) ≡ length (fs ++ rates_by_node ns rs) + 1)
    (λ same.
    let unknown : knows ns r.node ≡ false = ap (knows ns) (eqb-true r.node n.node same) ∙ above_unknown n ns rises.0 in
    let rest : length (rates_by_node ns (r ∷ rs)) ≡ length (rates_by_node ns rs) = ap length (unknown_rate ns r rs unknown) in
    let after = length-append (r ∷ fs) (rates_by_node ns (r ∷ rs)) in
    omega (arith, before, after, rest))
    (λ other.
    let differ : (n.node == r.node) ≡ false = ne_eqb n.node r.node (λ same. eqb-false r.node n.node other (sym same)) in
    let later : knows ns r.node ≡ true = ap (λ (b : Bool). b || knows ns r.node) (sym differ) ∙ known in
    let after = length-append fs (rates_by_node ns (r ∷ rs)) in
    omega (arith, before, after, one_known ns r rs rises.1 later))

pub all_kept : (ns : List NodeLine) (rs : List RateLine) → Rises ns → AllByRecursion (λ r. knows ns r.node ≡ true) rs
    → length (rates_by_node ns rs) ≡ length rs
all_kept ns [] rises known = ap length (none_left ns)
all_kept ns (r ∷ rs) rises known = omega (arith, one_known ns r rs rises known.0, all_kept ns rs rises known.1)

-- and those of one node still begin one after another
pub climbs_filter : {A : Type 0} (R : A → A → Type 0) (p : A → Bool) (xs : List A) → Climbs R xs → Climbs R (filter p xs)
climbs_filter R p [] climbs = tt
climbs_filter R p (x ∷ xs) climbs =
    cond_both (p x) (x ∷ filter p xs) (filter p xs) (Climbs R) (λ is. (all_filter (R x) p xs climbs.0, climbs_filter R p xs climbs.1))
    (λ not. climbs_filter R p xs climbs.1)

pub climbs_append : {A : Type 0} (R : A → A → Type 0) (xs ys : List A) → Climbs R xs → Climbs R ys
    → AllByRecursion (λ x. AllByRecursion (R x) ys) xs → Climbs R (xs ++ ys)
climbs_append R [] ys climbs others across = others
climbs_append R (x ∷ xs) ys climbs others across = (each_append (R x) xs ys climbs.0 across.0, climbs_append R xs ys climbs.1 others across.1)

pub of_that_node : (i : ℕ) (rs : List RateLine) → AllByRecursion (λ r. r.node ≡ i) (filter (is_of i) rs)
of_that_node i [] = tt
of_that_node i (r ∷ rs) =
    cond_both (is_of i r) (r ∷ filter (is_of i) rs) (filter (is_of i) rs) (AllByRecursion (λ r. r.node ≡ i))
    (λ is. (eqb-true r.node i is, of_that_node i rs)) (λ not. of_that_node i rs)

pub above : (i : ℕ) (ns : List NodeLine) (rs : List RateLine) → AllByRecursion (λ n. i < n.node) ns → AllByRecursion (λ r. i < r.node) (rates_by_node ns rs)
above i [] rs all = tt
above i (n ∷ ns) rs all =
    let first = all.0 in
    each_append (λ r. i < r.node) (filter (is_of n.node) rs) (rates_by_node ns rs)
    (map_all (λ r. r.node ≡ n.node) (λ r. i < r.node) (filter (is_of n.node) rs) (λ r is. omega (arith, first, is))
    (of_that_node n.node rs)) (above i ns rs all.1)

pub turns_follow : (ns : List NodeLine) (rs : List RateLine) → Rises ns → RatesBeginLater rs → RatesBeginLater (rates_by_node ns rs)
turns_follow [] rs rises follows = tt
turns_follow (n ∷ ns) rs rises follows =
    let fs : List RateLine = filter (is_of n.node) rs in
    let later = above n.node ns rs rises.0 in
    climbs_append (λ r s. r.node ≡ s.node → r.from < s.from) fs (rates_by_node ns rs)
    (climbs_filter (λ r s. r.node ≡ s.node → r.from < s.from) (is_of n.node) rs follows) (turns_follow ns rs rises.1 follows)
    (map_all (λ r. r.node ≡ n.node) (λ r. AllByRecursion (λ s. r.node ≡ s.node → r.from < s.from) (rates_by_node ns rs)) fs
    (λ r is. map_all (λ s. n.node < s.node) (λ s. r.node ≡ s.node → r.from < s.from) (rates_by_node ns rs)
    (λ s above same. absurd (omega (arith, is, above, same))) later) (of_that_node n.node rs))
