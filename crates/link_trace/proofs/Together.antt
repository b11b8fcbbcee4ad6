-- The cut lines that pass a test are next to each other.
use Rattle.std.proofs.Common.{◌≡◌, ℕ, zero, suc, ◌+◌, ◌-◌, ◌<◌, ◌≤◌, List, [], ◌∷◌, Bool, true, false, ◌||◌, ◌&&◌, ◌==◌, nat_lt}
use Rattle.std.proofs.Common.{nat_le, length, get_or, take, drop, cond, refl, sym, ◌∙◌, ap, arith, inl, inr, length-drop}
use Rattle.std.proofs.lemmas.Bool.{cases_lt}
use Rattle.std.proofs.lemmas.Bool.Decides.{nat_tests}
use Rattle.std.proofs.lemmas.Cmp.{ranked}
use Rattle.std.proofs.lemmas.List.{get_or-drop, take_all}
use Rattle.std.specs.List.{filter, list_any, AllWithin}
use Rattle.std.specs.List.Sorted.{IsPartitionedBy, IsPartitionPoint}
use Rattle.std.specs.Ordering.{nat_cmp, ordering_then, MatchOrdering}
use Rattle.std.specs.declared.cmp.Ordering.{Ordering}
use Rattle.std.specs.declared.cmp.Ordering.TheVariants.{Less, Equal, Greater}
use Rattle.link_trace.specs.declared.lines.CutLine.{CutLine}
use Rattle.link_trace.specs.Order.{Ascends, by_cut}
use Rattle.link_trace.specs.Passes.{cuts_by}

module _ {L : Type 0} (q : L → Bool) where
  pub none_pass : (xs : List L) → AllWithin (λ x. q x ≡ false) xs 0 (length xs) → filter q xs ≡ []
  none_pass [] none = refl
  none_pass (x ∷ xs) none = rw (none 0 x (omega arith) (omega arith)) (none_pass xs (λ k d low high. none (suc k) d (omega arith) (omega arith)))

  front_passes : (n : ℕ) (xs : List L) → n ≤ length xs → AllWithin (λ x. q x ≡ true) xs 0 n → AllWithin (λ x. q x ≡ false) xs n (length xs)
      → filter q xs ≡ take n xs
  front_passes zero xs within pass none = none_pass xs none
  front_passes (suc n) [] within pass none = absurd (omega arith)
  front_passes (suc n) (x ∷ xs) within pass none =
      rw (pass 0 x (omega arith) (omega arith))
      (ap (λ (ys : List L). x ∷ ys) (front_passes n xs (omega arith) (λ k d low high. pass (suc k) d (omega arith) (omega arith))
      (λ k d low high. none (suc k) d (omega arith) (omega arith))))

  pub front_fails : (m : ℕ) (xs : List L) → m ≤ length xs → AllWithin (λ x. q x ≡ false) xs 0 m → filter q xs ≡ filter q (drop m xs)
  front_fails zero xs within none = refl
  front_fails (suc m) [] within none = absurd (omega arith)
  front_fails (suc m) (x ∷ xs) within none =
      rw (none 0 x (omega arith) (omega arith)) (front_fails m xs (omega arith) (λ k d low high. none (suc k) d (omega arith) (omega arith)))

  -- the lines from m on, as many as n of them, are those that pass
  pub between_is_filter : (m n : ℕ) (xs : List L) → m ≤ length xs → n ≤ length (drop m xs) → AllWithin (λ x. q x ≡ false) xs 0 m
      → AllWithin (λ x. q x ≡ true) (drop m xs) 0 n → AllWithin (λ x. q x ≡ false) (drop m xs) n (length (drop m xs))
      → take n (take (length xs - m) (drop m xs)) ≡ filter q xs
  between_is_filter m n xs m_within n_within before pass after =
      ap (take n) (take_all (length xs - m) (drop m xs) (omega (arith, length-drop m xs)))
      ∙ sym (front_passes n (drop m xs) n_within pass after)
      ∙ sym (front_fails m xs m_within before)

  any_step : (p : L → Bool) (b : Bool) (x : L) (xs : List L) → list_any p (filter q xs) ≡ list_any (λ y. q y && p y) xs
      → list_any p (cond b (x ∷ filter q xs) (filter q xs)) ≡ ((b && p x) || list_any (λ y. q y && p y) xs)
  any_step p true x xs rest = ap (λ (c : Bool). p x || c) rest
  any_step p false x xs rest = rest

  -- one of those that pass
  pub list_any-filter : (p : L → Bool) (xs : List L) → list_any p (filter q xs) ≡ list_any (λ x. q x && p x) xs
  list_any-filter p [] = refl
  list_any-filter p (x ∷ xs) = any_step p (q x) x xs (list_any-filter p xs)

-- one of the cut lines so far
pub one_of_these : (f j k v : ℕ) (cuts : List CutLine)
    → list_any (λ l. l.node == v) (filter (cuts_by f j k) cuts) ≡ list_any (λ l. cuts_by f j k l && (l.node == v)) cuts
one_of_these f j k v cuts = list_any-filter (cuts_by f j k) (λ l. l.node == v) cuts

-- a first field below, or equal and the rest below
data Below (a x : ℕ) (rest : Type 0) : Type 0 where
  lower : a < x → Below a x rest
  level : a ≡ x → rest → Below a x rest

then_less_by : (a x : ℕ) (o rest : Ordering) → MatchOrdering o (a < x) (a ≡ x) (x < a) → ordering_then o rest ≡ Less → Below a x (rest ≡ Less)
then_less_by a x Less rest is less = lower is
then_less_by a x Equal rest is less = level is less
then_less_by a x Greater rest is less = cc

then_less : (a x : ℕ) (rest : Ordering) → ordering_then (nat_cmp a x) rest ≡ Less → Below a x (rest ≡ Less)
then_less a x rest less = then_less_by a x (nat_cmp a x) rest (ranked a x (nat_cmp a x) refl) less

-- the steps of two lines, the first of which is below the second
pub record Rises (f j k g i h : ℕ) : Type 0 where
  pub frames : f ≤ g
  pub slots : f ≡ g → j ≤ i
  pub steps : f ≡ g → j ≡ i → k ≤ h

pub steps_rise : (f j k g i h : ℕ) (rest : Ordering)
    → ordering_then (nat_cmp f g) (ordering_then (nat_cmp j i) (ordering_then (nat_cmp k h) rest)) ≡ Less → Rises f j k g i h
steps_rise f j k g i h rest less =
    elim (then_less f g _ less) [
      | lower frame ↦ record { frames = omega arith; slots = λ same. absurd (omega arith); steps = λ same also. absurd (omega arith) }
      | level same_frame less_slot ↦ elim (then_less j i _ less_slot) [
        | lower slot ↦ record { frames = omega arith; slots = λ same. omega arith; steps = λ same also. absurd (omega arith) }
        | level same_slot less_step ↦ elim (then_less k h _ less_step) [
          | lower step ↦ record { frames = omega arith; slots = λ same. omega arith; steps = λ same also. omega arith }
          | level same_step more ↦ record { frames = omega arith; slots = λ same. omega arith; steps = λ same also. omega arith }
        ]
      ]
    ]

-- the tests that the searches go by, over the steps of a line
abbrev before_frame : ℕ → ℕ → Bool
before_frame f g = nat_lt g f

abbrev in_frame_upto : ℕ → ℕ → ℕ → ℕ → ℕ → ℕ → Bool
in_frame_upto f j k g i h = (g == f) && (nat_lt i j || ((i == j) && nat_le h k))

module _ (f j k g i h fb jb kb : ℕ) (rises : Rises g i h fb jb kb) where
  frame_earlier : before_frame f fb ≡ true → before_frame f g ≡ true
  frame_earlier later = let frames = rises.frames in grind (arith, nat_tests)

  upto_earlier : before_frame f g ≡ false → in_frame_upto f j k fb jb kb ≡ true → in_frame_upto f j k g i h ≡ true
  upto_earlier from later = let frames = rises.frames in let slots = rises.slots in let steps = rises.steps in grind (arith, nat_tests)

module _ {L : Type 0} (order : L → L → Ordering) (xs : List L) (up : Ascends order xs) where
  pub partitioned : (p : L → Bool) → ((a b : L) → order a b ≡ Less → p b ≡ true → p a ≡ true) → IsPartitionedBy p xs
  partitioned p earlier i j d le inside passes =
      elim (cases_lt i j) [
        | inl less ↦ earlier _ _ (up i j d less inside) passes
        | inr not_less ↦ let same : i ≡ j = omega arith in rw same passes
      ]

  -- the lines from m on, none of which passes p
  pub partitioned_after : (p q : L → Bool) (m : ℕ) → AllWithin (λ x. p x ≡ false) xs m (length xs)
      → ((a b : L) → order a b ≡ Less → p a ≡ false → q b ≡ true → q a ≡ true) → IsPartitionedBy q (drop m xs)
  partitioned_after p q m after earlier i j d le inside passes =
      let inside_whole : m + j < length xs = omega (arith, length-drop m xs) in
      elim (cases_lt i j) [
        | inl less ↦
            rw (get_or-drop m xs i d)
            (earlier _ (get_or xs (m + j) d) (up (m + i) (m + j) d (omega arith) inside_whole) (after (m + i) d (omega arith) (omega arith))
            (rw (get_or-drop m xs j d) at passes))
        | inr not_less ↦ let same : i ≡ j = omega arith in rw same passes
      ]

-- the cut lines of frame f, up to slot j and step k
module _ (f j k : ℕ) (cuts : List CutLine) (up : Ascends by_cut cuts) where
  cut_rise : (a b : CutLine) → by_cut a b ≡ Less → Rises a.frame a.slot a.step b.frame b.slot b.step
  cut_rise a b less = steps_rise a.frame a.slot a.step b.frame b.slot b.step _ less

  pub first_cuts : IsPartitionedBy (λ l. nat_lt l.frame f) cuts
  first_cuts = partitioned by_cut cuts up (λ l. nat_lt l.frame f)
      (λ a b less later. frame_earlier f j k a.frame a.slot a.step b.frame b.slot b.step (cut_rise a b less) later)

  pub next_cuts : (m : ℕ) → AllWithin (λ l. nat_lt l.frame f ≡ false) cuts m (length cuts) → IsPartitionedBy (cuts_by f j k) (drop m cuts)
  next_cuts m after =
      partitioned_after by_cut cuts up (λ l. nat_lt l.frame f) (cuts_by f j k) m after
      (λ a b less from later. upto_earlier f j k a.frame a.slot a.step b.frame b.slot b.step (cut_rise a b less) from later)

  earlier_frame : (g i h : ℕ) → nat_lt g f ≡ true → in_frame_upto f j k g i h ≡ false
  earlier_frame g i h before = grind (arith, nat_tests)

  pub cuts_are : (m n : ℕ) → m ≤ length cuts → n ≤ length (drop m cuts) → IsPartitionPoint (λ l. nat_lt l.frame f ≡ true) (λ l. nat_lt l.frame f ≡ false) cuts m
      → IsPartitionPoint (λ l. cuts_by f j k l ≡ true) (λ l. cuts_by f j k l ≡ false) (drop m cuts) n
      → take n (take (length cuts - m) (drop m cuts)) ≡ filter (cuts_by f j k) cuts
  cuts_are m n m_within n_within first next =
      between_is_filter (cuts_by f j k) m n cuts m_within n_within
      (λ i d low high. let l = get_or cuts i d in earlier_frame l.frame l.slot l.step (first.0 i d low high)) next.0 next.1
