-- Which ratio of a link is in force, and one more of them.
use Rattle.std.proofs.Common.{◌≡◌, ℕ, suc, ◌-◌, ◌<◌, List, [], ◌∷◌, ◌++◌, Bool, true, false, length, get_or}
use Rattle.std.proofs.Common.{Option, Some, None, option_map, IfSome, sym, ap, subst, arith, inl, inr, nat_le}
use Rattle.std.proofs.lemmas.Bool.{cases_lt}
use Rattle.std.proofs.lemmas.List.Quantifiers.{all_pairs_push}
use Rattle.std.proofs.lemmas.List.Sorted.{IsPartitionedBy-leb}
use Rattle.std.proofs.lemmas.Option.{slice_get-get_or}
use Rattle.std.specs.List.{AllWithin, slice_get}
use Rattle.std.specs.List.Sorted.{IsNonDecreasingBy, IsPartitionedBy}
use Rattle.drawn_links.specs.RatioTables.{AreRising, ratio_by}
use Rattle.drawn_links.specs.declared.ratio_step.RatioStep.{RatioStep}
use Rattle.drawn_links.proofs.LastOnes.{none_last, one_last}

abbrev pub has_begun : ℕ → RatioStep → Bool
has_begun f s = nat_le s.frame f

module _ (ss : List RatioStep) (rising : AreRising ss) (f : ℕ) where
  frames_rise : IsNonDecreasingBy (λ (s : RatioStep). s.frame) ss
  frames_rise = λ i j d before inside. elim (cases_lt i j) [
    | inl less ↦ (let r = rising i j d less inside in omega arith)
    | inr not ↦ (let same : i ≡ j = omega arith in let is = ap (λ (n : ℕ). (get_or ss n d).frame) same in omega arith)
  ]

  pub parted : IsPartitionedBy (has_begun f) ss
  parted = IsPartitionedBy-leb (λ (s : RatioStep). s.frame) ss f frames_rise

-- none has begun
pub none_in_force : (ss : List RatioStep) (f : ℕ) → AllWithin (λ s. has_begun f s ≡ false) ss 0 (length ss) → None ≡ ratio_by ss f
none_in_force ss f none = sym (ap (option_map (λ (s : RatioStep). s.ratio)) (none_last (has_begun f) ss none))

-- the last of those that have begun
pub last_in_force : (ss : List RatioStep) (f k : ℕ) (d : RatioStep) → k < length ss → has_begun f (get_or ss k d) ≡ true
    → AllWithin (λ s. has_begun f s ≡ false) ss (suc k) (length ss) → Some (get_or ss k d).ratio ≡ ratio_by ss f
last_in_force ss f k d inside begun none = sym (ap (option_map (λ (s : RatioStep). s.ratio)) (one_last (has_begun f) ss k d inside begun none))

-- one more that begins after the last
pub rising_more : (ss : List RatioStep) (s : RatioStep) → AreRising ss → IfSome (slice_get ss (length ss - 1)) (λ l. l.frame < s.frame)
    → AreRising (ss ++ s ∷ [])
rising_more ss s rising later = all_pairs_push (λ (a b : RatioStep). a.frame < b.frame) ss s rising (λ k d inside. below k d inside)
  where
    below : (k : ℕ) (d : RatioStep) → k < length ss → (get_or ss k d).frame < s.frame
    below k d inside =
        let n : ℕ = length ss - 1 in
        let last : (get_or ss n d).frame < s.frame =
        subst (λ (o : Option RatioStep). IfSome o (λ l. l.frame < s.frame)) (slice_get-get_or ss n d (omega arith)) later in
        elim (cases_lt k n) [
          | inl before ↦ (let r = rising k n d before (omega arith) in omega arith)
          | inr not ↦ (let same : k ≡ n = omega arith in let is = ap (λ (j : ℕ). (get_or ss j d).frame) same in omega arith)
        ]
