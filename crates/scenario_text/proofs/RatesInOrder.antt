-- Rates by node and tick are those of each node in turn.
use Rattle.std.proofs.Common.{◌≡◌, ℕ, ◌<◌, ◌≤◌, List, [], ◌∷◌, ◌++◌, true, false, ◌==◌, filter, refl, sym, ◌∙◌, ap, arith, ◌⊎◌, inl, inr}
use Rattle.std.proofs.lemmas.Bool.{cond-true, cond-false, ne_eqb, eq-eqb, eqb-true, or_cases, false≢true}
use Rattle.std.proofs.lemmas.Bool.Decides.{nat_tests}
use Rattle.std.proofs.lemmas.Cmp.{ranked}
use Rattle.std.specs.List.{AllByRecursion}
use Rattle.std.specs.Ordering.{nat_cmp, ordering_then}
use Rattle.std.specs.declared.cmp.Ordering.{Ordering}
use Rattle.std.specs.declared.cmp.Ordering.TheVariants.{Less, Equal, Greater}
use Rattle.lwb_base.proofs.Orders.{compares_less}
use Rattle.scenario_text.specs.FloodParts.{knows}
use Rattle.scenario_text.specs.FloodDrafts.{Climbs, Rises, RatesBeginLater}
use Rattle.scenario_text.specs.Network.{rates_by_node}
use Rattle.scenario_text.specs.PartsInOrder.{by_rate}
use Rattle.scenario_text.specs.declared.lines.NodeLine.{NodeLine}
use Rattle.scenario_text.specs.declared.lines.RateLine.{RateLine}
use Rattle.scenario_text.proofs.RatesKept.{is_of, map_all, above_unknown}
use Rattle.scenario_text.proofs.RatesInTurn.{unknown_rate, none_left, climbs_filter, climbs_append, of_that_node, above}

abbrev pub IsBelow : RateLine → RateLine → Type 0
IsBelow a b = by_rate a b ≡ Less

rate_below : (a b : RateLine) → IsBelow a b → (a.node < b.node) ⊎ ((a.node ≡ b.node) × (a.from < b.from))
rate_below a b is = by_node (nat_cmp a.node b.node) refl is
  where
    by_node : (o : Ordering) → nat_cmp a.node b.node ≡ o → ordering_then o (nat_cmp a.from b.from) ≡ Less
        → (a.node < b.node) ⊎ ((a.node ≡ b.node) × (a.from < b.from))
    by_node Less node is = inl (ranked a.node b.node Less (sym node))
    by_node Equal node is = inr (ranked a.node b.node Equal (sym node), ranked a.from b.from Less (sym is))
    by_node Greater node is = cc

of_lesser_node : (a b : RateLine) → a.node < b.node → IsBelow a b
of_lesser_node a b lt = ap (λ (o : Ordering). ordering_then o (nat_cmp a.from b.from)) (compares_less a.node b.node lt)

of_same_node : (a b : RateLine) → a.node ≡ b.node → a.from < b.from → IsBelow a b
of_same_node a b same lt =
    let tied : nat_cmp a.node b.node ≡ Equal = grind (arith, nat_tests, same) in
    ap (λ (o : Ordering). ordering_then o (nat_cmp a.from b.from)) tied ∙ compares_less a.from b.from lt

-- of two rates of one node the later begins later
pub below_follows : (rs : List RateLine) → Climbs IsBelow rs → RatesBeginLater rs
below_follows [] climbs = tt
below_follows (r ∷ rs) climbs = (
  map_all (IsBelow r) (λ s. r.node ≡ s.node → r.from < s.from) rs
      (λ s below same. elim (rate_below r s below) [ inl lesser ↦ absurd (omega (arith, lesser, same)) | inr later ↦ later.1 ]) climbs.0,
  below_follows rs climbs.1,
)

-- the rates of each node in turn are all
none_of : (i : ℕ) (rs : List RateLine) → AllByRecursion (λ r. i < r.node) rs → filter (is_of i) rs ≡ []
none_of i [] all = refl
none_of i (r ∷ rs) all =
    let first = all.0 in
    cond-false (is_of i r) (r ∷ filter (is_of i) rs) (filter (is_of i) rs) (ne_eqb r.node i (λ same. omega (arith, same, first))) ∙ none_of i rs all.1

known_above : (i v : ℕ) (ns : List NodeLine) → AllByRecursion (λ n. i < n.node) ns → knows ns v ≡ true → i < v
known_above i v [] all known = absurd (false≢true known)
known_above i v (n ∷ ns) all known =
    let first = all.0 in
    elim (or_cases (n.node == v) (knows ns v) known) [
      | inl here ↦ (let same = eqb-true n.node v here in omega (arith, same, first))
      | inr later ↦ known_above i v ns all.1 later
    ]

first_in_turn : (ns : List NodeLine) (r : RateLine) (rs : List RateLine) → Rises ns → knows ns r.node ≡ true → AllByRecursion (λ s. r.node ≤ s.node) rs
    → rates_by_node ns (r ∷ rs) ≡ r ∷ rates_by_node ns rs
first_in_turn [] r rs rises known least = absurd (false≢true known)
first_in_turn (n ∷ ns) r rs rises known least =
    elim (or_cases (n.node == r.node) (knows ns r.node) known) [
      | inl here ↦ of_first here
      | inr later ↦ of_others later (first_in_turn ns r rs rises.1 later least)
    ]
  where
    fs : List RateLine
    fs = filter (is_of n.node) rs

    of_first : (n.node == r.node) ≡ true → rates_by_node (n ∷ ns) (r ∷ rs) ≡ r ∷ rates_by_node (n ∷ ns) rs
    of_first here =
        let same = eqb-true n.node r.node here in
        let unknown : knows ns r.node ≡ false = ap (knows ns) (sym same) ∙ above_unknown n ns rises.0 in
        ap (λ (l : List RateLine). l ++ rates_by_node ns (r ∷ rs)) (cond-true (is_of n.node r) (r ∷ fs) fs (eq-eqb r.node n.node (sym same)))
        ∙ ap (λ (l : List RateLine). (r ∷ fs) ++ l) (unknown_rate ns r rs unknown)

    of_others : knows ns r.node ≡ true → rates_by_node ns (r ∷ rs) ≡ r ∷ rates_by_node ns rs → rates_by_node (n ∷ ns) (r ∷ rs) ≡ r ∷ rates_by_node (n ∷ ns) rs
    of_others later rest =
        let lt : n.node < r.node = known_above n.node r.node ns rises.0 later in
        let all : AllByRecursion (λ s. n.node < s.node) rs = map_all (λ s. r.node ≤ s.node) (λ s. n.node < s.node) rs (λ s le. omega (arith, lt, le)) least in
        ap (λ (l : List RateLine). l ++ rates_by_node ns (r ∷ rs)) (none_of n.node (r ∷ rs) (lt, all))
        ∙ rest
        ∙ ap (λ (l : List RateLine). r ∷ l ++ rates_by_node ns rs) (sym (none_of n.node rs all))

pub below_in_turn : (ns : List NodeLine) (rs : List RateLine) → Rises ns → AllByRecursion (λ r. knows ns r.node ≡ true) rs → Climbs IsBelow rs
    → rates_by_node ns rs ≡ rs
below_in_turn ns [] rises known climbs = none_left ns
below_in_turn ns (r ∷ rs) rises known climbs =
    let least : AllByRecursion (λ s. r.node ≤ s.node) rs = map_all (IsBelow r) (λ s. r.node ≤ s.node) rs
    (λ s below. elim (rate_below r s below) [ inl lesser ↦ omega (arith, lesser) | inr later ↦ (let same = later.0 in omega (arith, same)) ]) climbs.0 in
    first_in_turn ns r rs rises known.0 least ∙ ap (λ (l : List RateLine). r ∷ l) (below_in_turn ns rs rises known.1 climbs.1)

-- and the rates of each node in turn are by node and tick
one_node : (i : ℕ) (rs : List RateLine) → AllByRecursion (λ r. r.node ≡ i) rs → RatesBeginLater rs → Climbs IsBelow rs
one_node i [] of follows = tt
one_node i (r ∷ rs) of follows = (above_first rs of.1 follows.0, one_node i rs of.1 follows.1)
  where
    above_first : (ss : List RateLine) → AllByRecursion (λ s. s.node ≡ i) ss → AllByRecursion (λ s. r.node ≡ s.node → r.from < s.from) ss
        → AllByRecursion (IsBelow r) ss
    above_first [] same later = tt
    above_first (s ∷ ss) same later = let both : r.node ≡ s.node = of.0 ∙ sym same.0 in (of_same_node r s both (later.0 both), above_first ss same.1 later.1)

pub turns_climb : (ns : List NodeLine) (rs : List RateLine) → Rises ns → RatesBeginLater rs → Climbs IsBelow (rates_by_node ns rs)
turns_climb [] rs rises follows = tt
turns_climb (n ∷ ns) rs rises follows =
    let fs : List RateLine = filter (is_of n.node) rs in
    let own = of_that_node n.node rs in
    climbs_append IsBelow fs (rates_by_node ns rs)
    (one_node n.node fs own (climbs_filter (λ r s. r.node ≡ s.node → r.from < s.from) (is_of n.node) rs follows)) (turns_climb ns rs rises.1 follows)
    (map_all (λ r. r.node ≡ n.node) (λ r. AllByRecursion (IsBelow r) (rates_by_node ns rs)) fs
    (λ r is. map_all (λ s. n.node < s.node) (IsBelow r) (rates_by_node ns rs) (λ s over. of_lesser_node r s (omega (arith, is, over)))
    (above n.node ns rs rises.0)) own)
