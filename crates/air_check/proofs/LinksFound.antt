-- The links from one node are a stretch of all links.
use Rattle.std.proofs.Common.{◌≡◌, ℕ, ◌+◌, ◌-◌, ◌<◌, ◌≤◌, List, length, take, drop, inl, inr, true, false, nat_lt, nat_le, sym, ◌∙◌, ap, refl, arith}
use Rattle.std.proofs.Common.{get_or, true≢false, length-drop, length-take-le}
use Rattle.std.proofs.lemmas.Bool.{cases_lt, ltb-true, ltb-false, leb-true, le-leb}
use Rattle.std.proofs.lemmas.Cmp.{ranked}
use Rattle.std.proofs.lemmas.List.{get_or-take, get_or-drop}
use Rattle.std.proofs.lemmas.List.Sorted.{IsPartitionedBy-ltb, IsPartitionedBy-leb, IsNonDecreasingBy-drop}
use Rattle.std.specs.List.Sorted.{IsPartitionedBy, IsPartitionPoint, IsNonDecreasingBy}
use Rattle.std.specs.Ordering.{nat_cmp, ordering_then, MatchOrdering}
use Rattle.std.specs.declared.cmp.Ordering.{Ordering}
use Rattle.std.specs.declared.cmp.Ordering.TheVariants.{Less, Equal, Greater}
use Rattle.link_trace.specs.Order.{Ascends, by_link}
use Rattle.link_trace.specs.declared.lines.LinkLine.{LinkLine}
use Rattle.air_check.specs.SenderLinks.{HaveLinksFrom}

abbrev pub sender_of : LinkLine → ℕ
sender_of l = l.from

-- a first field below, or equal and the second below
less_by : (a x b y : ℕ) (o p : Ordering) → MatchOrdering o (a < x) (a ≡ x) (x < a) → MatchOrdering p (b < y) (b ≡ y) (y < b)
    → ordering_then o p ≡ Less → (a ≤ x) × (a ≡ x → b < y)
less_by a x b y Less p is then less = (omega (arith, is), λ same. absurd (omega (arith, is, same)))
less_by a x b y Equal Less is then less = (omega (arith, is), λ same. then)
less_by a x b y Equal Equal is then less = cc
less_by a x b y Equal Greater is then less = cc
less_by a x b y Greater p is then less = cc

below : (k l : LinkLine) → by_link k l ≡ Less → (k.from ≤ l.from) × (k.from ≡ l.from → k.to < l.to)
below k l less =
    less_by k.from l.from k.to l.to (nat_cmp k.from l.from) (nat_cmp k.to l.to) (ranked k.from l.from (nat_cmp k.from l.from) refl)
    (ranked k.to l.to (nat_cmp k.to l.to) refl) less

module _ (links : List LinkLine) (u : ℕ) (up : Ascends by_link links) where
  by_sender : IsNonDecreasingBy sender_of links
  by_sender i j d le within = elim (cases_lt i j) [
    | inl less ↦ (below (get_or links i d) (get_or links j d) (up i j d less within)).0
    | inr not ↦ let same : i ≡ j = omega arith in let is = ap (λ (k : ℕ). (get_or links k d).from) same in omega (arith, is)
  ]

  pub before : IsPartitionedBy (λ (l : LinkLine). nat_lt l.from u) links
  before = IsPartitionedBy-ltb sender_of links u by_sender

  pub rest_up_to : (first : ℕ) → IsPartitionedBy (λ (l : LinkLine). nat_le l.from u) (drop first links)
  rest_up_to first = IsPartitionedBy-leb sender_of (drop first links) u (IsNonDecreasingBy-drop sender_of first links by_sender)

  module _ (first count : ℕ) (within : first ≤ length links) (few : count ≤ length (drop first links))
      (begin : IsPartitionPoint (λ (l : LinkLine). nat_lt l.from u ≡ true) (λ l. nat_lt l.from u ≡ false) links first)
      (end : IsPartitionPoint (λ (l : LinkLine). nat_le l.from u ≡ true) (λ l. nat_le l.from u ≡ false) (drop first links) count) where
    abbrev some : List LinkLine
    some = take count (drop first links)

    size : length some ≡ count
    size = length-take-le count (drop first links) few

    at_place : (k : ℕ) (d : LinkLine) → k < count → get_or some k d ≡ get_or links (first + k) d
    at_place k d less = get_or-take count (drop first links) k d less ∙ get_or-drop first links k d

    from_u : (k : ℕ) (d : LinkLine) → k < count → (get_or links (first + k) d).from ≡ u
    from_u k d less =
        let long = length-drop first links in
        let low = ltb-false (get_or links (first + k) d).from u (begin.1 (first + k) d (omega arith) (omega (arith, long, less, few))) in
        let high = leb-true (get_or (drop first links) k d).from u (end.0 k d (omega arith) less) in
        let same = ap sender_of (get_or-drop first links k d) in
        omega (arith, low, high, same)

    pub have_links : HaveLinksFrom links u some
    have_links = record {
      all = λ l there from. (
          let k = there.0 in
          let in_it = there.1 in
          let at = there.2 in
          elim (cases_lt k first) [
            | inl early ↦
                let so = ltb-true (get_or links k l).from u (begin.0 k l (omega arith) early) in
                let same = ap sender_of at in
                absurd (omega (arith, so, same, from))
            | inr late ↦
                let place : ℕ = k - first in
                let is : get_or (drop first links) place l ≡ l = get_or-drop first links place l ∙ ap (λ (n : ℕ). get_or links n l) (omega arith) ∙ at in
                elim (cases_lt place count) [
                  | inl less ↦ (place, omega (arith, less, size), get_or-take count (drop first links) place l less ∙ is)
                  | inr not ↦
                      let past = end.1 place l not (omega (arith, length-drop first links)) in
                      let so = le-leb l.from u (omega (arith, from)) in
                      absurd (true≢false (sym so ∙ ap (λ (z : LinkLine). nat_le z.from u) (sym is) ∙ past))
                ]
          ]);
      ascending = λ i j d less in_it. (
          let j_below : j < count = omega (arith, in_it, size) in
          let i_below : i < count = omega (arith, less, j_below) in
          let so = below (get_or links (first + i) d) (get_or links (first + j) d)
          (up (first + i) (first + j) d (omega (arith, less)) (omega (arith, j_below, few, length-drop first links))) in
          let to_i = ap (λ (l : LinkLine). l.to) (at_place i d i_below) in
          let to_j = ap (λ (l : LinkLine). l.to) (at_place j d j_below) in
          let rises = so.1 (from_u i d i_below ∙ sym (from_u j d j_below)) in
          omega (arith, rises, to_i, to_j));
    }
