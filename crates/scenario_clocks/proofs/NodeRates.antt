-- The rates of each node, and the clocks made of them.
use Rattle.std.proofs.Common.{◌≡◌, ℕ, ℤ, zero, suc, ◌+◌, ◌<◌, ◌≤◌, ◌^◌, List, [], ◌∷◌, ◌++◌, Bool, true, false, ◌==◌, if◌then◌else◌, Option, Some, None}
use Rattle.std.proofs.Common.{option_map, map, filter, length, get_or, set, drop, replicate, refl, sym, ◌∙◌, ap, subst, arith, All, ◌||◌}
use Rattle.std.specs.Prelude.{◌≢◌}
use Rattle.std.proofs.lemmas.Bool.{cond_both, cond-true, cond-false, eqb-true, eqb-false, le-ltb, lt-leb, false≢true}
use Rattle.std.proofs.lemmas.List.{length-set, get_or-set_same, get_or-set_other, map-append, append-nil, length-replicate}
use Rattle.std.proofs.lemmas.List.Elements.{filter-append, recursion_from_All, All-from_recursion}
use Rattle.std.proofs.lemmas.Iterator.Adapters.{position_from-zero}
use Rattle.std.specs.Int.RustNames.{unsigned_abs}
use Rattle.std.specs.List.{AllByRecursion, AllPairs, zip, position, position_from}
use Rattle.tick_clock.specs.ClockReadings.{segment_clock_reads}
use Rattle.tick_clock.specs.Rates.{is_wild, is_late, wild_at, unordered_at, segment_reading}
use Rattle.tick_clock.specs.declared.segment_clock.SegmentClock.{SegmentClock}
use Rattle.scenario_text.specs.FloodParts.{knows}
use Rattle.scenario_text.specs.declared.lines.NodeLine.{NodeLine}
use Rattle.scenario_text.specs.declared.lines.RateLine.{RateLine}
use Rattle.scenario_clocks.specs.ClockLists.{clocks_by}
use Rattle.scenario_clocks.specs.StatedClocks.{rate_entry_of_line, rates_of, stated_by}
use Rattle.scenario_clocks.specs.NodeRates.{AreRatesOf, AreClocks, IsId}

-- a rate more
rates_more : (rs : List RateLine) (r : RateLine) (v : ℕ) → rates_of (rs ++ r ∷ []) v ≡ rates_of rs v
    ++ map rate_entry_of_line (filter (λ s. s.node == v) (r ∷ []))
rates_more rs r v =
    ap (λ (l : List RateLine). map rate_entry_of_line l) (filter-append (λ (s : RateLine). s.node == v) rs (r ∷ []))
    ∙ map-append rate_entry_of_line (filter (λ s. s.node == v) rs) (filter (λ s. s.node == v) (r ∷ []))

pub added_rate : (rs : List RateLine) (r : RateLine) (lists : List (List (ℕ × ℤ))) → AreRatesOf rs lists → r.node ≤ 200
    → AreRatesOf (rs ++ r ∷ []) (set lists r.node (get_or lists r.node [] ++ rate_entry_of_line r ∷ []))
added_rate rs r lists are few = record {
  ids = length-set lists r.node with_rate ∙ are.ids;
  each = λ v. by_test v (r.node == v) refl;
}
  where
    with_rate : List (ℕ × ℤ)
    with_rate = get_or lists r.node [] ++ rate_entry_of_line r ∷ []

    by_test : (v : ℕ) (b : Bool) → (r.node == v) ≡ b → get_or (set lists r.node with_rate) v [] ≡ rates_of (rs ++ r ∷ []) v
    by_test v true at =
        let own : r.node ≡ v = eqb-true r.node v at in
        let here : get_or (set lists r.node with_rate) v [] ≡ with_rate =
        ap (λ (w : ℕ). get_or (set lists r.node with_rate) w []) (sym own) ∙ get_or-set_same lists r.node with_rate [] (omega (arith, are.ids, few)) in
        let last : filter (λ s. s.node == v) (r ∷ []) ≡ r ∷ [] = cond-true (r.node == v) (r ∷ []) [] at in
        here
        ∙ ap (λ (l : List (ℕ × ℤ)). l ++ rate_entry_of_line r ∷ []) (are.each r.node ∙ ap (λ (w : ℕ). rates_of rs w) own)
        ∙ sym (rates_more rs r v ∙ ap (λ (l : List RateLine). rates_of rs v ++ map rate_entry_of_line l) last)
    by_test v false at =
        let other : r.node ≢ v = eqb-false r.node v at in
        let last : filter (λ s. s.node == v) (r ∷ []) ≡ [] = cond-false (r.node == v) (r ∷ []) [] at in
        get_or-set_other lists r.node v with_rate [] (λ same. other (sym same))
        ∙ are.each v
        ∙ sym (rates_more rs r v ∙ ap (λ (l : List RateLine). rates_of rs v ++ map rate_entry_of_line l) last ∙ append-nil (rates_of rs v))

nothing_yet : (n v : ℕ) → (let none : List (ℕ × ℤ) = [] in get_or (replicate n none) v none ≡ none)
nothing_yet zero v = refl
nothing_yet (suc n) zero = refl
nothing_yet (suc n) (suc v) = nothing_yet n v

pub none_yet : (lists : List (List (ℕ × ℤ))) → lists ≡ replicate 201 [] → AreRatesOf [] lists
none_yet lists is = record {
  ids = ap (λ (l : List (List (ℕ × ℤ))). length l) is ∙ length-replicate 201 none;
  each = λ v. ap (λ (l : List (List (ℕ × ℤ))). get_or l v none) is ∙ nothing_yet 201 v;
}
  where
    none : List (ℕ × ℤ)
    none = []

-- what holds of all rates holds of those of a node
of_rates : (P : ℕ × ℤ → Type 0) (v : ℕ) (rs : List RateLine) → AllByRecursion (λ r. P (rate_entry_of_line r)) rs → AllByRecursion P (rates_of rs v)
of_rates P v [] all = tt
of_rates P v (r ∷ rs) all =
    let fs : List RateLine = filter (λ r. r.node == v) rs in
    cond_both (r.node == v) (r ∷ fs) fs (λ (l : List RateLine). AllByRecursion P (map rate_entry_of_line l)) (λ is. (all.0, of_rates P v rs all.1))
    (λ not. of_rates P v rs all.1)

pub early_rates : (v : ℕ) (rs : List RateLine) → All (λ r. r.from < 2 ^ 47) rs → All (λ r. r.0 < 2 ^ 47) (rates_of rs v)
early_rates v rs all =
    All-from_recursion (λ (e : ℕ × ℤ). e.0 < 2 ^ 47) (rates_of rs v)
    (of_rates (λ e. e.0 < 2 ^ 47) v rs (recursion_from_All (λ (r : RateLine). r.from < 2 ^ 47) rs all))

-- no fault
no_place : {X : Type 0} (p : X → Bool) (i : ℕ) (xs : List X) → AllByRecursion (λ x. p x ≡ false) xs → position_from p i xs ≡ None
no_place p i [] all = refl
no_place p i (x ∷ xs) all = cond-false (p x) (Some i) (position_from p (i + 1) xs) all.0 ∙ no_place p (i + 1) xs all.1

nowhere : {X : Type 0} (p : X → Bool) (xs : List X) → AllByRecursion (λ x. p x ≡ false) xs → position p xs ≡ None
nowhere p xs all = position_from-zero p xs ∙ no_place p 0 xs all

tame : (rs : List RateLine) → AllByRecursion (λ r. unsigned_abs r.ppm ≤ 20) rs → AllByRecursion (λ r. is_wild (rate_entry_of_line r) ≡ false) rs
tame [] all = tt
tame (r ∷ rs) all = (le-ltb 20 (unsigned_abs r.ppm) all.0, tame rs all.1)

pub none_wild : (v : ℕ) (rs : List RateLine) → All (λ r. unsigned_abs r.ppm ≤ 20) rs → wild_at (rates_of rs v) ≡ None
none_wild v rs all =
    nowhere is_wild (rates_of rs v) (of_rates (λ e. is_wild e ≡ false) v rs (tame rs (recursion_from_All (λ (r : RateLine). unsigned_abs r.ppm ≤ 20) rs all)))

in_time : (fs : List RateLine) → AllPairs (λ a b. a.from < b.from) fs
    → AllByRecursion (λ p. is_late p ≡ false) (zip (map rate_entry_of_line fs) (drop 1 (map rate_entry_of_line fs)))
in_time [] all = tt
in_time (a ∷ []) all = tt
in_time (a ∷ b ∷ fs) all = (
  lt-leb b.from a.from (all 0 1 a (omega arith) (omega arith)),
  in_time (b ∷ fs) (λ i j d less within. all (suc i) (suc j) d (omega (arith, less)) (omega (arith, within))),
)

pub none_late : (v : ℕ) (rs : List RateLine) → AllPairs (λ a b. a.from < b.from) (filter (λ r. r.node == v) rs) → unordered_at (rates_of rs v) ≡ None
none_late v rs all =
    ap (λ (o : Option ℕ). option_map (λ i. i + 1) o)
    (nowhere is_late (zip (rates_of rs v) (drop 1 (rates_of rs v))) (in_time (filter (λ r. r.node == v) rs) all))

-- a clock more
pub clock_more : (rates : List RateLine) (ns : List NodeLine) (cs : List SegmentClock) (n : NodeLine) (c : SegmentClock) → AreClocks rates ns cs
    → segment_clock_reads c ≡ segment_reading n.offset (rates_of rates n.node) → IsId n → AreClocks rates (ns ++ n ∷ []) (cs ++ c ∷ [])
clock_more rates [] [] n c are reads id = (reads, id, tt)
clock_more rates [] (d ∷ cs) n c are reads id = absurd are
clock_more rates (m ∷ ns) [] n c are reads id = absurd are
clock_more rates (m ∷ ns) (d ∷ cs) n c are reads id = (are.0, are.1, clock_more rates ns cs n c are.2 reads id)

pub as_many : (rates : List RateLine) (ns : List NodeLine) (cs : List SegmentClock) → AreClocks rates ns cs → length cs ≡ length ns
as_many rates [] [] are = refl
as_many rates [] (d ∷ cs) are = absurd are
as_many rates (m ∷ ns) [] are = absurd are
as_many rates (m ∷ ns) (d ∷ cs) are = ap suc (as_many rates ns cs are.2)

pub read_as_stated : (rates : List RateLine) (ns : List NodeLine) (cs : List SegmentClock) (v : ℕ) → AreClocks rates ns cs
    → clocks_by segment_clock_reads ns cs v ≡ stated_by ns rates v
read_as_stated rates [] [] v are = refl
read_as_stated rates [] (d ∷ cs) v are = absurd are
read_as_stated rates (m ∷ ns) [] v are = absurd are
read_as_stated rates (m ∷ ns) (d ∷ cs) v are = by_test (m.node == v) are.0 (read_as_stated rates ns cs v are.2)
  where
    by_test : {a b c d : ℕ → ℕ} (t : Bool) → a ≡ b → c ≡ d → (if t then a else c) ≡ (if t then b else d)
    by_test true first other = first
    by_test false first other = other

-- nodes with clocks have ids in range
ids_by_recursion : (rates : List RateLine) (ns : List NodeLine) (cs : List SegmentClock) → AreClocks rates ns cs → AllByRecursion IsId ns
ids_by_recursion rates [] [] are = tt
ids_by_recursion rates [] (d ∷ cs) are = absurd are
ids_by_recursion rates (m ∷ ns) [] are = absurd are
ids_by_recursion rates (m ∷ ns) (d ∷ cs) are = (are.1, ids_by_recursion rates ns cs are.2)

pub ids_in_range : (rates : List RateLine) (ns : List NodeLine) (cs : List SegmentClock) → AreClocks rates ns cs → All IsId ns
ids_in_range rates ns cs are = All-from_recursion IsId ns (ids_by_recursion rates ns cs are)

-- and so has a node that is one of them
known_by_recursion : (ns : List NodeLine) (v : ℕ) → AllByRecursion IsId ns → knows ns v ≡ true → (1 ≤ v) × (v ≤ 200)
known_by_recursion [] v ids known = absurd (false≢true known)
known_by_recursion (n ∷ ns) v ids known = by_test (n.node == v) refl known (λ later. known_by_recursion ns v ids.1 later)
  where
    by_test : (b : Bool) → (n.node == v) ≡ b → (b || knows ns v) ≡ true → (knows ns v ≡ true → (1 ≤ v) × (v ≤ 200)) → (1 ≤ v) × (v ≤ 200)
    by_test true is any later = subst (λ (w : ℕ). (1 ≤ w) × (w ≤ 200)) (eqb-true n.node v is) ids.0
    by_test false is any later = later any

pub known_id : (ns : List NodeLine) (v : ℕ) → All IsId ns → knows ns v ≡ true → (1 ≤ v) × (v ≤ 200)
known_id ns v ids known = known_by_recursion ns v (recursion_from_All IsId ns ids) known
