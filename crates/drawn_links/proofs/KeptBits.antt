-- A mask whose bits are looked at one after another, and left out where a test holds.
use Rattle.std.proofs.Common.{◌≡◌, ℕ, Bool, true, false, not, ◌&&◌, ◌==◌, nat_lt, List, length, get_or, if◌then◌else◌, refl, sym, ◌∙◌, ap}
use Rattle.std.specs.Int.{bit_at}
use Rattle.lwb_base.proofs.Truths.{one_if}
use Rattle.link_trace.specs.Masks.{IsMask, IsMaskAmong, HasAll}
use Rattle.link_trace.specs.Passes.{Lines, passes}
use Rattle.drawn_links.specs.DrawnLosses.{drawn, is_drawn}
use Rattle.drawn_links.specs.Drawings.{IsWithout, has_coins}
use Rattle.drawn_links.specs.declared.ratio_line.RatioLine.{RatioLine}
use Rattle.drawn_links.proofs.DrawnPasses.{passes_drawn}

-- what is kept, with these bits still to be looked at
abbrev pub IsWithoutSoFar : (ℕ → Bool) → ℕ → ℕ → ℕ → Type 0
IsWithoutSoFar test mask rest kept = (i : ℕ) → bit_at kept i ≡ (if test i && (bit_at rest i == 0) then 0 else bit_at mask i)

less_lost : (n p l : Bool) → (if l then 0 else one_if (n && p)) ≡ one_if (n && (p && not l))
less_lost false p true = refl
less_lost false p false = refl
less_lost true true true = refl
less_lost true false true = refl
less_lost true true false = refl
less_lost true false false = refl

less_asked : (a n p l : Bool) → (if l then 0 else one_if (a && (n && p))) ≡ one_if (a && (n && (p && not l)))
less_asked false n p true = refl
less_asked false n p false = refl
less_asked true n p l = less_lost n p l

module _ (t : Lines) (ratios : List RatioLine) (seed frames f j k : ℕ) (nodes : List ℕ) where
  -- where coins are thrown, the links to a node that pass and are not drawn
  pub kept_to_it : (v mask kept : ℕ) → has_coins frames f j k ≡ true → IsMask (λ u. passes t f j k u v) nodes mask
      → IsWithout (λ i. is_drawn ratios seed f j k (get_or nodes i 0) v) mask kept → IsMask (λ u. passes (drawn t ratios seed frames) f j k u v) nodes kept
  kept_to_it v mask kept coins is without i =
      let u = get_or nodes i 0 in
      let lost = is_drawn ratios seed f j k u v in
      without i ∙ ap (λ (n : ℕ). if lost then 0 else n) (is i) ∙ less_lost (nat_lt i (length nodes)) (passes t f j k u v) lost
      ∙ ap (λ (b : Bool). one_if (nat_lt i (length nodes) && (passes t f j k u v && not (b && lost)))) (sym coins)
      ∙ ap (λ (b : Bool). one_if (nat_lt i (length nodes) && b)) (sym (passes_drawn t ratios seed frames f j k u v))

  -- and those from it
  pub kept_from_it : (u mask kept : ℕ) → has_coins frames f j k ≡ true → IsMask (λ v. passes t f j k u v) nodes mask
      → IsWithout (λ i. is_drawn ratios seed f j k u (get_or nodes i 0)) mask kept → IsMask (λ v. passes (drawn t ratios seed frames) f j k u v) nodes kept
  kept_from_it u mask kept coins is without i =
      let v = get_or nodes i 0 in
      let lost = is_drawn ratios seed f j k u v in
      without i ∙ ap (λ (n : ℕ). if lost then 0 else n) (is i) ∙ less_lost (nat_lt i (length nodes)) (passes t f j k u v) lost
      ∙ ap (λ (b : Bool). one_if (nat_lt i (length nodes) && (passes t f j k u v && not (b && lost)))) (sym coins)
      ∙ ap (λ (b : Bool). one_if (nat_lt i (length nodes) && b)) (sym (passes_drawn t ratios seed frames f j k u v))

  all_pass : (p : Bool) (x y : ℕ) → has_coins frames f j k ≡ false → (p && not (has_coins frames f j k && is_drawn ratios seed f j k x y)) ≡ p
  all_pass p x y none = ap (λ (b : Bool). p && not (b && is_drawn ratios seed f j k x y)) none ∙ second p
    where
      second : (b : Bool) → (b && true) ≡ b
      second true = refl
      second false = refl

  -- where none are thrown, what passes over the trace
  pub all_to_it : (v mask : ℕ) → has_coins frames f j k ≡ false → IsMask (λ u. passes t f j k u v) nodes mask
      → IsMask (λ u. passes (drawn t ratios seed frames) f j k u v) nodes mask
  all_to_it v mask none is i =
      let u = get_or nodes i 0 in
      is i ∙ ap (λ (b : Bool). one_if (nat_lt i (length nodes) && b))
      (sym (passes_drawn t ratios seed frames f j k u v ∙ all_pass (passes t f j k u v) u v none))

  pub all_from_it : (u mask : ℕ) → has_coins frames f j k ≡ false → IsMask (λ v. passes t f j k u v) nodes mask
      → IsMask (λ v. passes (drawn t ratios seed frames) f j k u v) nodes mask
  all_from_it u mask none is i =
      let v = get_or nodes i 0 in
      is i ∙ ap (λ (b : Bool). one_if (nat_lt i (length nodes) && b))
      (sym (passes_drawn t ratios seed frames f j k u v ∙ all_pass (passes t f j k u v) u v none))

  -- what passes is among what passes over the trace
  pub more_to_it : (v mask : ℕ) → HasAll (λ u. passes t f j k u v) nodes mask → HasAll (λ u. passes (drawn t ratios seed frames) f j k u v) nodes mask
  more_to_it v mask has i inside none =
      let u = get_or nodes i 0 in
      passes_drawn t ratios seed frames f j k u v
      ∙ ap (λ (b : Bool). b && not (has_coins frames f j k && is_drawn ratios seed f j k u v)) (has i inside none)

  -- the same of those of a set
  pub kept_among : (u among mask kept : ℕ) → has_coins frames f j k ≡ true → IsMaskAmong (λ v. passes t f j k u v) nodes among mask
      → IsWithout (λ i. is_drawn ratios seed f j k u (get_or nodes i 0)) mask kept
      → IsMaskAmong (λ v. passes (drawn t ratios seed frames) f j k u v) nodes among kept
  kept_among u among mask kept coins is without i =
      let v = get_or nodes i 0 in
      let lost = is_drawn ratios seed f j k u v in
      let asked = bit_at among i == 1 in
      without i ∙ ap (λ (n : ℕ). if lost then 0 else n) (is i) ∙ less_asked asked (nat_lt i (length nodes)) (passes t f j k u v) lost
      ∙ ap (λ (b : Bool). one_if (asked && (nat_lt i (length nodes) && (passes t f j k u v && not (b && lost))))) (sym coins)
      ∙ ap (λ (b : Bool). one_if (asked && (nat_lt i (length nodes) && b))) (sym (passes_drawn t ratios seed frames f j k u v))

  pub all_among : (u among mask : ℕ) → has_coins frames f j k ≡ false → IsMaskAmong (λ v. passes t f j k u v) nodes among mask
      → IsMaskAmong (λ v. passes (drawn t ratios seed frames) f j k u v) nodes among mask
  all_among u among mask none is i =
      let v = get_or nodes i 0 in
      is i ∙ ap (λ (b : Bool). one_if ((bit_at among i == 1) && (nat_lt i (length nodes) && b)))
      (sym (passes_drawn t ratios seed frames f j k u v ∙ all_pass (passes t f j k u v) u v none))
