-- Which transmissions can overlap one: a stretch of those by start.
use Rattle.std.proofs.Common.{◌≡◌, ℕ, ◌+◌, ◌-◌, ◌<◌, ◌≤◌, ◌^◌, List, length, take, drop, inl, inr, true, false, nat_lt, nat_le, sym, ◌∙◌, ap, subst, arith}
use Rattle.std.proofs.Common.{All, AllPairs, get_or, true≢false, length-drop, length-take-le}
use Rattle.std.proofs.lemmas.Bool.{cases_lt, ltb-true, lt-ltb, le-leb}
use Rattle.std.proofs.lemmas.List.{get_or-take, get_or-drop}
use Rattle.std.proofs.lemmas.List.Elements.{All-more, All-weaker, All-contains, Contains-get_or}
use Rattle.std.proofs.lemmas.List.Sorted.{IsPartitionedBy-ltb, IsPartitionedBy-leb, IsNonDecreasingBy-drop}
use Rattle.std.specs.List.Sorted.{IsPartitionedBy, IsPartitionPoint, IsNonDecreasingBy}
use Rattle.radio_model.specs.Hearing.{Before}
use Rattle.radio_model.specs.OnAir.{Sending}
use Rattle.radio_model.specs.Receptions.{AreNear}

abbrev pub start_of : Sending → ℕ
start_of y = y.start

-- one more that lasts no longer
pub longer : (sent : List Sending) (i : ℕ) (y : Sending) → i < length sent → y ≡ get_or sent i y → (l m : ℕ)
    → All (λ (z : Sending). z.end ≤ z.start + l) (take i sent) → l ≤ m → y.end ≤ y.start + m → All (λ (z : Sending). z.end ≤ z.start + m) (take (i + 1) sent)
longer sent i y below at l m all more lasts =
    All-more (λ (z : Sending). z.end ≤ z.start + m) sent i y below
    (All-weaker (λ (z : Sending). z.end ≤ z.start + l) (λ (z : Sending). z.end ≤ z.start + m) (λ z by. omega (arith, by, more)) (take i sent) all)
    (subst (λ (z : Sending). z.end ≤ z.start + m) at lasts)

pub by_start : (sent : List Sending) → AllPairs Before sent → IsNonDecreasingBy start_of sent
by_start sent in_order i j d le below = elim (cases_lt i j) [
  | inl less ↦ (in_order i j d less below).start
  | inr not ↦ let same : i ≡ j = omega arith in let is = ap (λ (k : ℕ). (get_or sent k d).start) same in omega (arith, is)
]

pub starts_before : (sent : List Sending) (t : ℕ) → AllPairs Before sent → IsPartitionedBy (λ (y : Sending). nat_lt y.start t) sent
starts_before sent t in_order = IsPartitionedBy-ltb start_of sent t (by_start sent in_order)

pub rest_starts_before : (sent : List Sending) (t first : ℕ) → AllPairs Before sent → IsPartitionedBy (λ (y : Sending). nat_lt y.start t) (drop first sent)
rest_starts_before sent t first in_order =
    IsPartitionedBy-ltb start_of (drop first sent) t (IsNonDecreasingBy-drop start_of first sent (by_start sent in_order))

-- what is near some starts as early as they do
pub near_early : (sent near : List Sending) (x : Sending) → AreNear sent x near → All (λ (y : Sending). y.start ≤ 2 ^ 46) sent
    → All (λ (y : Sending). y.start ≤ 2 ^ 46) near
near_early sent near x are early k d below =
    All-contains (λ (y : Sending). y.start ≤ 2 ^ 46) sent (get_or near k d) early (are.among (get_or near k d) (Contains-get_or near k d below))

module _ (sent : List Sending) (longest : ℕ) (x : Sending) (in_order : AllPairs Before sent) (long : All (λ (y : Sending). y.end ≤ y.start + longest) sent)
    (earliest first count : ℕ) (within : first ≤ length sent) (few : count ≤ length (drop first sent)) (since : earliest ≤ x.start - longest)
    (begin : IsPartitionPoint (λ (y : Sending). nat_lt y.start earliest ≡ true) (λ y. nat_lt y.start earliest ≡ false) sent first)
    (end : IsPartitionPoint (λ (y : Sending). nat_lt y.start x.end ≡ true) (λ y. nat_lt y.start x.end ≡ false) (drop first sent) count) where
  abbrev some : List Sending
  some = take count (drop first sent)

  size : length some ≡ count
  size = length-take-le count (drop first sent) few

  at_place : (k : ℕ) (d : Sending) → k < count → get_or some k d ≡ get_or sent (first + k) d
  at_place k d below = get_or-take count (drop first sent) k d below ∙ get_or-drop first sent k d

  pub are_near : AreNear sent x some
  are_near = record {
    among = λ y there. (
        let k = there.0 in
        let below = there.1 in
        (first + k, omega (arith, below, size, few, length-drop first sent), sym (at_place k y (omega (arith, below, size))) ∙ there.2));
    all = λ y there meets. (
        let k = there.0 in
        let below = there.1 in
        let at = there.2 in
        let before = meets.before in
        let after = meets.after in
        let lasts = All-contains (λ (z : Sending). z.end ≤ z.start + longest) sent y long there in
        elim (cases_lt k first) [
          | inl early ↦
              let so = ltb-true (get_or sent k y).start earliest (begin.0 k y (omega arith) early) in
              let start = ap (λ (z : Sending). z.start) at in
              absurd (omega (arith, so, start, since, lasts, before))
          | inr from ↦
              let place : ℕ = k - first in
              let is : get_or (drop first sent) place y ≡ y = get_or-drop first sent place y ∙ ap (λ (n : ℕ). get_or sent n y) (omega arith) ∙ at in
              elim (cases_lt place count) [
                | inl less ↦ (place, omega (arith, less, size), get_or-take count (drop first sent) place y less ∙ is)
                | inr not ↦
                    let late = end.1 place y not (omega (arith, length-drop first sent)) in
                    let starts = lt-ltb y.start x.end after in
                    absurd (true≢false (sym starts ∙ ap (λ (z : Sending). nat_lt z.start x.end) (sym is) ∙ late))
              ]
        ]);
  }

-- those that start at a tick
module _ (sent : List Sending) (in_order : AllPairs Before sent) (t first count : ℕ) (within : first ≤ length sent) (few : count ≤ length (drop first sent))
    (begin : IsPartitionPoint (λ (y : Sending). nat_lt y.start t ≡ true) (λ y. nat_lt y.start t ≡ false) sent first)
    (end : IsPartitionPoint (λ (y : Sending). nat_le y.start t ≡ true) (λ y. nat_le y.start t ≡ false) (drop first sent) count) where
  pub starting : (k : ℕ) (d : Sending) → k < length sent → (get_or sent k d).start ≡ t → (first ≤ k) × (k < first + count)
  starting k d below at = elim (cases_lt k first) [
    | inl early ↦ let so = ltb-true (get_or sent k d).start t (begin.0 k d (omega arith) early) in absurd (omega arith)
    | inr from ↦
        let place : ℕ = k - first in
        let is : get_or (drop first sent) place d ≡ get_or sent k d = get_or-drop first sent place d ∙ ap (λ (n : ℕ). get_or sent n d) (omega arith) in
        elim (cases_lt place count) [
          | inl less ↦ (from, omega arith)
          | inr not ↦
              let late = end.1 place d not (omega (arith, length-drop first sent)) in
              let so = le-leb (get_or sent k d).start t (omega arith) in
              absurd (true≢false (sym so ∙ ap (λ (z : Sending). nat_le z.start t) (sym is) ∙ late))
        ]
  ]

pub rest_starts_by : (sent : List Sending) (t first : ℕ) → AllPairs Before sent → IsPartitionedBy (λ (y : Sending). nat_le y.start t) (drop first sent)
rest_starts_by sent t first in_order = IsPartitionedBy-leb start_of (drop first sent) t (IsNonDecreasingBy-drop start_of first sent (by_start sent in_order))
