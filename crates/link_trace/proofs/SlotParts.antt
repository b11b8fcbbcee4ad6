-- The part of the lines between two places holds all lines of some slots, where those outside are of others.
use Rattle.std.proofs.Common.{◌≡◌, ℕ, zero, suc, ◌+◌, ◌-◌, ◌<◌, ◌≤◌, List, [], ◌∷◌, Bool, true, false, ◌||◌, length, get_or, take, drop, cond}
use Rattle.std.proofs.Common.{refl, sym, ◌∙◌, ◌++◌, ap, subst, arith, inl, inr, length-drop, length-append}
use Rattle.std.proofs.lemmas.Bool.{cases_lt, false_from_ne_true}
use Rattle.std.specs.List.{filter, list_any, AllWithin}
use Rattle.std.specs.List.Sorted.{IsPartitionPoint}
use Rattle.std.proofs.lemmas.List.{get_or-drop, get_or-take, get_or_append_left, get_or_push, length-take}
use Rattle.std.specs.declared.cmp.Ordering.{Ordering}
use Rattle.link_trace.specs.Order.{Ascends}
use Rattle.link_trace.specs.Starts.{AreStarts, HoldsSlots}
use Rattle.link_trace.proofs.Together.{none_pass, front_fails}

module _ {L : Type 0} (q : L → Bool) where
  -- a slice outside of which none passes
  back_fails : (n : ℕ) (xs : List L) → AllWithin (λ x. q x ≡ false) xs n (length xs) → filter q (take n xs) ≡ filter q xs
  back_fails zero xs none = sym (none_pass q xs none)
  back_fails (suc n) [] none = refl
  back_fails (suc n) (x ∷ xs) none = ap (λ (ys : List L). cond (q x) (x ∷ ys) ys) (back_fails n xs (λ k d low high. none (suc k) d (omega arith) (omega arith)))

  pub part_passes : (b e : ℕ) (xs : List L) → b ≤ e → e ≤ length xs → AllWithin (λ x. q x ≡ false) xs 0 b → AllWithin (λ x. q x ≡ false) xs e (length xs)
      → filter q (take (e - b) (drop b xs)) ≡ filter q xs
  part_passes b e xs order within before after =
      back_fails (e - b) (drop b xs)
      (λ k d low high. let long = length-drop b xs in
      rw (get_or-drop b xs k d) (after (b + k) d (omega arith) (omega (arith, long))))
      ∙ sym (front_fails q b xs (omega arith) before)

abbrev some : {L : Type 0} → List L → Bool
some [] = false
some (x ∷ xs) = true

any_some : {L : Type 0} (q : L → Bool) (xs : List L) → list_any q xs ≡ some (filter q xs)
any_some q [] = refl
any_some {L} q (x ∷ xs) = by (q x) (any_some q xs)
  where
    by : (b : Bool) → list_any q xs ≡ some (filter q xs) → (b || list_any q xs) ≡ some (cond b (x ∷ filter q xs) (filter q xs))
    by true rest = refl
    by false rest = rest

-- whether one passes, where the same ones pass
pub same_any : {L : Type 0} (q : L → Bool) (part xs : List L) → filter q part ≡ filter q xs → list_any q part ≡ list_any q xs
same_any q part xs same = any_some q part ∙ ap some same ∙ sym (any_some q xs)

part_ascends : {L : Type 0} (order : L → L → Ordering) (b n : ℕ) (xs : List L) → Ascends order xs → Ascends order (take n (drop b xs))
part_ascends order b n xs up i j d less inside =
    let ys = drop b xs in
    let long = length-take n ys in
    let longer = length-drop b xs in
    rw (get_or-take n ys i d (omega (arith, long)), get_or-take n ys j d (omega (arith, long)), get_or-drop b xs i d, get_or-drop b xs j d)
    (up (b + i) (b + j) d (omega arith) (omega (arith, long, longer)))

module _ {L : Type 0} (slot_of : L → ℕ) (first last : ℕ) (order : first ≤ last) where
  -- the places are in order, for a line before the one and from the other on would be of two slots
  pub places_ascend : (lines : List L) (b e : ℕ) → b ≤ length lines → AllWithin (λ l. slot_of l < first) lines 0 b
      → AllWithin (λ l. last < slot_of l) lines e (length lines) → b ≤ e
  places_ascend [] b e within before after = omega arith
  places_ascend (x ∷ xs) b e within before after = elim (cases_lt e b) [
    | inl crossed ↦ absurd (omega (arith, before e x (omega arith) crossed, after e x (omega arith) (omega arith)))
    | inr ordered ↦ ordered
  ]

  pub holds_slots : (lines : List L) (b e : ℕ) → b ≤ e → e ≤ length lines → AllWithin (λ l. slot_of l < first) lines 0 b
      → AllWithin (λ l. last < slot_of l) lines e (length lines) → HoldsSlots slot_of lines (take (e - b) (drop b lines)) first last
  holds_slots lines b e ordered within before after = record {
    ascends = λ by up. part_ascends by b (e - b) lines up;
    all = λ test of. part_passes test b e lines ordered within
        (λ k d low high. false_from_ne_true (test (get_or lines k d))
        (λ passes. let there = of (get_or lines k d) passes in omega (arith, there.0, before k d low high)))
        (λ k d low high. false_from_ne_true (test (get_or lines k d))
        (λ passes. let there = of (get_or lines k d) passes in omega (arith, there.1, after k d low high)));
  }

-- one more start
module _ {L : Type 0} (slot_of : L → ℕ) (lines : List L) where
  pub one_more_start : (starts : List ℕ) (k : ℕ) (start : ℕ) → AreStarts slot_of lines starts → length starts ≡ k → start ≤ length lines
      → IsPartitionPoint (λ l. slot_of l < k) (λ l. k ≤ slot_of l) lines start → AreStarts slot_of lines (starts ++ start ∷ [])
  one_more_start starts k start are many within parted = record {
    within = λ i inside. elim (cases_lt i (length starts)) [
      | inl old ↦ rw (get_or_append_left starts (start ∷ []) 0 i old) (are.within i old)
      | inr new ↦ let last = is_last i inside new in rw (get_or_push starts start 0 i (sym last)) within
    ];
    parted = λ i inside. elim (cases_lt i (length starts)) [
      | inl old ↦ rw (get_or_append_left starts (start ∷ []) 0 i old) (are.parted i old)
      | inr new ↦
          let last = is_last i inside new in
          rw (get_or_push starts start 0 i (sym last))
          (subst (λ (n : ℕ). IsPartitionPoint (λ l. slot_of l < n) (λ l. n ≤ slot_of l) lines start) (sym many ∙ sym last) parted)
    ];
  }
    where
      is_last : (i : ℕ) → i < length (starts ++ start ∷ []) → length starts ≤ i → i ≡ length starts
      is_last i inside new = let long = length-append starts (start ∷ []) in omega (arith, long)
