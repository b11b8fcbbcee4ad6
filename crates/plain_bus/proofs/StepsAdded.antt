-- The steps in which each node sent, counted mask by mask.
use Rattle.std.proofs.Common.{◌≡◌, ◌≢◌, ◌<◌, ◌≤◌, ◌==◌, ◌+◌, ◌∷◌, ◌++◌, [], ℕ, List, Bool, true, false, inl, inr, Option, Some}
use Rattle.std.proofs.Common.{None, not, ◌&&◌, length, get_or, set, refl}
use Rattle.std.proofs.Common.{sym, ◌∙◌, ap, subst, arith, if◌then◌else◌, length-append}
use Rattle.std.specs.Int.{bit_at}
use Rattle.std.specs.List.{range_with_len, last_or}
use Rattle.std.proofs.lemmas.Bool.{cases_eq}
use Rattle.std.proofs.lemmas.List.FromFn.{length-range_with_len}
use Rattle.std.proofs.lemmas.Nat.Bits.{bit_at-zero}
use Rattle.std.proofs.lemmas.Option.{same_Some}
use Rattle.lwb_base.specs.declared.limits.TheConstants.{MOST_NODES}
use Rattle.lwb_base.proofs.Lists.{length_filtered}
use Rattle.std.proofs.lemmas.List.{get_or-set_same, get_or-set_other, get_or_default}
use Rattle.plain_bus.specs.SentSteps.{AreStepsOf, counted, with_step}
use Rattle.plain_bus.specs.SlotCosts.{steps_at}
use Rattle.plain_bus.specs.declared.cost.Steps.{Steps}
use Rattle.plain_bus.proofs.StepsCounted.{one_step_more, no_step_more, last_pushed}

-- with the step where the node is of the mask, and is not left of it
abbrev pub stepped : ℕ → Bool → Bool → Steps → Steps
stepped k sends left x = if sends && not left then with_step k x else x

-- so many of the mask are done
abbrev pub AreStepped : ℕ → ℕ → ℕ → List Steps → List Steps → Type 0
AreStepped k mask rest olds now =
    (i : ℕ) (d : Steps) → i < MOST_NODES → get_or now i d ≡ stepped k (bit_at mask i == 1) (bit_at rest i == 1) (get_or olds i d)

one_is : (a : ℕ) → a ≡ 1 → (a == 1) ≡ true
one_is a is = ap (λ (n : ℕ). n == 1) is

none_left : (k : ℕ) (b : Bool) (x : Steps) → stepped k b b x ≡ x
none_left k true x = refl
none_left k false x = refl

-- none is done where all are left
pub none_stepped : (k mask : ℕ) (olds : List Steps) → AreStepped k mask mask olds olds
none_stepped k mask olds i d below = sym (none_left k (bit_at mask i == 1) (get_or olds i d))

module _ (k mask rest next place : ℕ) (olds now : List Steps)
    (old_size : length olds ≡ MOST_NODES) (size : length now ≡ MOST_NODES) (below : place < MOST_NODES)
    (of_mask : bit_at mask place ≡ 1) (of_rest : bit_at rest place ≡ 1) (cleared : bit_at next place ≡ 0)
    (others : (i : ℕ) → i ≢ place → bit_at next i ≡ bit_at rest i) (are : AreStepped k mask rest olds now) where
  -- one that is left is as it was
  pub as_before : (d : Steps) → get_or now place d ≡ get_or olds place d
  as_before d =
      are place d below
      ∙ ap (λ (b : Bool). stepped k b (bit_at rest place == 1) (get_or olds place d)) (one_is (bit_at mask place) of_mask)
      ∙ ap (λ (b : Bool). stepped k true b (get_or olds place d)) (one_is (bit_at rest place) of_rest)

  -- one more is done
  pub one_stepped : (y d₀ : Steps) → y ≡ with_step k (get_or now place d₀) → AreStepped k mask next olds (set now place y)
  one_stepped y d₀ is i d inside = elim (cases_eq i place) [
    | inl same ↦
        (let here : get_or (set now place y) place d ≡ stepped k (bit_at mask place == 1) (bit_at next place == 1) (get_or olds place d) =
        get_or-set_same now place y d (omega (arith, size, below)) ∙ is
        ∙ ap (with_step k) (as_before d₀ ∙ get_or_default olds place d₀ d (omega (arith, old_size, below)))
        ∙ ap (λ (b : Bool). stepped k true b (get_or olds place d)) (sym (ap (λ (n : ℕ). n == 1) cleared))
        ∙ ap (λ (b : Bool). stepped k b (bit_at next place == 1) (get_or olds place d)) (sym (one_is (bit_at mask place) of_mask)) in
        subst (λ (j : ℕ). get_or (set now place y) j d ≡ stepped k (bit_at mask j == 1) (bit_at next j == 1) (get_or olds j d)) (sym same) here)
    | inr other ↦
        get_or-set_other now place i y d other ∙ are i d inside
        ∙ ap (λ (n : ℕ). stepped k (bit_at mask i == 1) (n == 1) (get_or olds i d)) (sym (others i other))
  ]

none_left_of : (k : ℕ) (b : Bool) (x : Steps) → stepped k b false x ≡ (if b then with_step k x else x)
none_left_of k true x = refl
none_left_of k false x = refl

-- all are done where none is left
pub all_stepped : (k mask rest : ℕ) (olds now : List Steps) → rest ≡ 0 → AreStepped k mask rest olds now → (i : ℕ) (d : Steps) → i < MOST_NODES
    → get_or now i d ≡ (if bit_at mask i == 1 then with_step k (get_or olds i d) else get_or olds i d)
all_stepped k mask rest olds now over are i d below =
    are i d below
    ∙ ap (λ (n : ℕ). stepped k (bit_at mask i == 1) (n == 1) (get_or olds i d)) (ap (λ (r : ℕ). bit_at r i) over ∙ bit_at-zero i)
    ∙ none_left_of k (bit_at mask i == 1) (get_or olds i d)

counted_more : (ks : List ℕ) (k : ℕ) → counted (ks ++ k ∷ []) ≡ with_step k (counted ks)
counted_more ks k =
    let made : ℕ → Option ℕ → Steps = λ n o. record { count = n; last = o } in
    ap (λ (n : ℕ). made n (last_or None (ks ++ k ∷ []))) (length-append ks (k ∷ [])) ∙ ap (made (length ks + 1)) (last_pushed None ks k)

module _ (masks : List ℕ) (n : ℕ) (olds now : List Steps) (before : AreStepsOf masks n olds) where
  -- no node sent more often than there were steps
  pub few_steps : (i : ℕ) (d : Steps) → i < length olds → (get_or olds i d).count ≤ n
  few_steps i d below =
      let here : (get_or olds i d).count ≡ length (steps_at masks i n) = ap (λ (x : Steps). x.count) (before.each i d (omega (arith, below, before.size))) in
      let few = length_filtered (λ k. bit_at (get_or masks k 0) i == 1) (range_with_len 0 n) in
      omega (arith, here, few, length-range_with_len 0 n)

  -- with the mask of the next step
  module _ (mask : ℕ) (is : mask ≡ get_or masks n 0)
      (made : (i : ℕ) (d : Steps) → i < MOST_NODES → get_or now i d ≡ (if bit_at mask i == 1 then with_step n (get_or olds i d) else get_or olds i d)) where
    now_is : (i : ℕ) (d : Steps) (b : Bool) → i < MOST_NODES → (bit_at (get_or masks n 0) i == 1) ≡ b
        → get_or now i d ≡ (if b then with_step n (get_or olds i d) else get_or olds i d)
    now_is i d b below bit =
        made i d below ∙ ap (λ (m : ℕ). if bit_at m i == 1 then with_step n (get_or olds i d) else get_or olds i d) is
        ∙ ap (λ (s : Bool). if s then with_step n (get_or olds i d) else get_or olds i d) bit

    each_more : (i : ℕ) (d : Steps) (b : Bool) → i < MOST_NODES → (bit_at (get_or masks n 0) i == 1) ≡ b → get_or now i d ≡ counted (steps_at masks i (n + 1))
    each_more i d true below sends =
        now_is i d true below sends ∙ ap (with_step n) (before.each i d below) ∙ sym (counted_more (steps_at masks i n) n)
        ∙ ap counted (sym (one_step_more masks i n sends))
    each_more i d false below rests = now_is i d false below rests ∙ before.each i d below ∙ ap counted (sym (no_step_more masks i n rests))

    early_more : (i : ℕ) (d : Steps) (k : ℕ) (b : Bool) → i < MOST_NODES → (bit_at (get_or masks n 0) i == 1) ≡ b → (get_or now i d).last ≡ Some k → k < n + 1
    early_more i d k true below sends last =
        let same = same_Some n k (sym (ap (λ (x : Steps). x.last) (now_is i d true below sends)) ∙ last) in omega (arith, same)
    early_more i d k false below rests last =
        let old = before.early i d k below (sym (ap (λ (x : Steps). x.last) (now_is i d false below rests)) ∙ last) in omega (arith, old)

    pub steps_more : length now ≡ MOST_NODES → AreStepsOf masks (n + 1) now
    steps_more size = record {
      size = size;
      each = λ i d below. each_more i d (bit_at (get_or masks n 0) i == 1) below refl;
      early = λ i d k below last. early_more i d k (bit_at (get_or masks n 0) i == 1) below refl last;
    }

-- at first nobody sent
pub none_counted : (masks : List ℕ) (xs : List Steps) → length xs ≡ MOST_NODES
    → ((i : ℕ) (d : Steps) → i < MOST_NODES → get_or xs i d ≡ record { count = 0; last = None }) → AreStepsOf masks 0 xs
none_counted masks xs size none = record {
  size = size;
  each = λ i d below. none i d below;
  early = λ i d k below last. absurd (let no : ◌≡◌ {A = Option ℕ} None (Some k) = sym (ap (λ (x : Steps). x.last) (none i d below)) ∙ last in cc);
}
