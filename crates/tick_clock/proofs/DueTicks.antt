-- The first tick at which a clock has come to a number.
use Rattle.std.proofs.Common.{◌≡◌, ℕ, zero, suc, ◌+◌, ◌/◌, ◌-◌, ◌^◌, ◌<◌, ◌≤◌, ◌↔◌, Bool, true, false, if◌then◌else◌, leb, refl, sym, ◌∙◌, ap, arith, inl, inr}
use Rattle.std.proofs.lemmas.Bool.{true≢false, leb-true, leb-false, le-leb, cases_lt}
use Rattle.tick_clock.specs.Clocks.{Near, IsClock, least, due}
use Rattle.tick_clock.proofs.Readings.{rounded, one_more, never_back, over_short}

-- ---- the first number that passes

abbrev Passes : (ℕ → Bool) → ℕ → ℕ → Type 0
Passes passes n t = (passes n ≡ true) × (n ≤ t)

abbrev next : (ℕ → Bool) → ℕ → Bool
next passes t = passes (suc t)

passes_rest : (passes : ℕ → Bool) (n t : ℕ) → ((s : ℕ) → s < n → passes (suc s) ≡ true → Passes (next passes) (least n (next passes)) s)
    → t < suc n → passes t ≡ true → passes zero ≡ false → Passes passes (suc (least n (next passes))) t
passes_rest passes n zero rest below at first = absurd (true≢false (sym at ∙ first))
passes_rest passes n (suc s) rest below at first = let r = rest s (omega arith) at in (r.0, omega arith)

passes_by : (passes : ℕ → Bool) (n t : ℕ) (b : Bool) → passes zero ≡ b → (passes zero ≡ false → Passes passes (suc n) t)
    → Passes passes (if b then zero else suc n) t
passes_by passes n t true first rest = (first, omega arith)
passes_by passes n t false first rest = rest first

pub least_passes : (n : ℕ) (passes : ℕ → Bool) (t : ℕ) → t < n → passes t ≡ true → Passes passes (least n passes) t
unfolding least
least_passes zero passes t below at = absurd (omega arith)
least_passes (suc n) passes t below at = passes_by passes (least n (next passes)) t (passes zero) refl
    (λ first. passes_rest passes n t (λ s. least_passes n (next passes) s) below at first)

fails_rest : (passes : ℕ → Bool) (n s : ℕ) → ((s : ℕ) → s < n → passes (suc s) ≡ false) → passes zero ≡ false → s < suc n → passes s ≡ false
fails_rest passes n zero rest first before = first
fails_rest passes n (suc s) rest first before = rest s (omega arith)

fails_by : (passes : ℕ → Bool) (n s : ℕ) (b : Bool) → passes zero ≡ b → ((s : ℕ) → s < n → passes (suc s) ≡ false)
    → s < (if b then zero else suc n) → passes s ≡ false
fails_by passes n s true first rest before = absurd (omega arith)
fails_by passes n s false first rest before = fails_rest passes n s rest first before

pub none_before : (n : ℕ) (passes : ℕ → Bool) (s : ℕ) → s < least n passes → passes s ≡ false
unfolding least
none_before zero passes s before = absurd (omega arith)
none_before (suc n) passes s before = fails_by passes (least n (next passes)) s (passes zero) refl (λ k. none_before n (next passes) k) before

pub least_at_most : (n : ℕ) (passes : ℕ → Bool) → least n passes ≤ n
unfolding least
least_at_most zero passes = omega arith
least_at_most (suc n) passes = at_most_by (least n (next passes)) n (passes zero) (least_at_most n (next passes))
  where
    at_most_by : (l n : ℕ) (b : Bool) → l ≤ n → (if b then zero else suc l) ≤ suc n
    at_most_by l n true order = omega arith
    at_most_by l n false order = omega arith

found_by : (passes : ℕ → Bool) (n l : ℕ) (b : Bool) → passes zero ≡ b → (l < n → passes (suc l) ≡ true)
    → (if b then zero else suc l) < suc n → passes (if b then zero else suc l) ≡ true
found_by passes n l true first rest below = first
found_by passes n l false first rest below = rest (omega arith)

-- a search that ends below its bound has found something
pub least_found : (n : ℕ) (passes : ℕ → Bool) → least n passes < n → passes (least n passes) ≡ true
unfolding least
least_found zero passes below = absurd (omega arith)
least_found (suc n) passes below = found_by passes n (least n (next passes)) (passes zero) refl (λ less. least_found n (next passes) less) below

-- ---- due

abbrev reads : (ℕ → ℕ) → ℕ → ℕ → Bool
reads L x t = leb x (L t)

-- the search ends
found : (L : ℕ → ℕ) (x : ℕ) → IsClock L → x + x / 40000 + 2 ≤ 2 ^ 48 → x ≤ L (x + x / 40000 + 2)
found L x clock within = omega (arith, rounded L 0 (x + x / 40000 + 2) (x + x / 40000 + 2) clock (omega arith) within)

due_soon : (L : ℕ → ℕ) (x : ℕ) → IsClock L → x + x / 40000 + 2 ≤ 2 ^ 48 → due L x ≤ x + x / 40000 + 2
unfolding due
due_soon L x clock within = (least_passes (x + x / 40000 + 3) (reads L x) (x + x / 40000 + 2) (omega arith)
    (le-leb x (L (x + x / 40000 + 2)) (found L x clock within))).1

due_bound : (L : ℕ → ℕ) (x : ℕ) → due L x ≤ x + x / 40000 + 3
unfolding due
due_bound L x = least_at_most (x + x / 40000 + 3) (reads L x)

reads_below : (L : ℕ → ℕ) (x : ℕ) → due L x < x + x / 40000 + 3 → x ≤ L (due L x)
unfolding due
reads_below L x below = leb-true _ _ (least_found (x + x / 40000 + 3) (reads L x) below)

-- a due tick up to 2 ^ 48 is one at which the clock has come to the number
pub reads_at_due : (L : ℕ → ℕ) (x : ℕ) → IsClock L → due L x ≤ 2 ^ 48 → x ≤ L (due L x)
reads_at_due L x clock within =
    elim (cases_lt (due L x) (x + x / 40000 + 3)) [
      | inl below ↦ reads_below L x below
      | inr above ↦ absurd (omega (arith, due_soon L x clock (omega arith)))
    ]

pub due_is : (L : ℕ → ℕ) (x : ℕ) → IsClock L → x ≤ 2 ^ 47 → (x ≤ L (due L x)) × (due L x ≤ x + x / 40000 + 2)
due_is L x clock small =
    let soon = due_soon L x clock (omega arith) in
    (reads_at_due L x clock (omega arith), soon)

pub before_due : (L : ℕ → ℕ) (x s : ℕ) → s < due L x → L s < x
unfolding due
before_due L x s before = leb-false x (L s) (none_before (x + x / 40000 + 3) (reads L x) s before)

pub due_at_most : (L : ℕ → ℕ) (x t : ℕ) → x ≤ L t → due L x ≤ t
due_at_most L x t read = elim (cases_lt t (due L x)) [ inl before ↦ absurd (omega (arith, before_due L x t before)) | inr at ↦ at ]

pub due_iff : (L : ℕ → ℕ) (x t : ℕ) → IsClock L → t ≤ 2 ^ 48 → (due L x ≤ t) ↔ (x ≤ L t)
due_iff L x t clock within =
    (λ at. (let m = never_back L (due L x) t clock at within in omega (arith, reads_at_due L x clock (omega arith))), due_at_most L x t)

pub due_after : (L : ℕ → ℕ) (x t : ℕ) → IsClock L → t ≤ 2 ^ 48 → L t < x → t < due L x
due_after L x t clock within early =
    elim (cases_lt t (due L x)) [ inl before ↦ before | inr late ↦ absurd (omega (arith, (due_iff L x t clock within).0 late)) ]

pub due_monotone : (L : ℕ → ℕ) (x y : ℕ) → x ≤ y → due L x ≤ due L y
due_monotone L x y order =
    elim (cases_lt (due L y) (y + y / 40000 + 3)) [
      | inl below ↦ due_at_most L x (due L y) (omega (arith, reads_below L y below))
      | inr above ↦ omega (arith, due_bound L x)
    ]

-- what the clock reads at a due tick that is not the first is the number or one more
pub overshoot : (L : ℕ → ℕ) (x : ℕ) → IsClock L → due L x ≤ 2 ^ 48 → 0 < due L x → L (due L x) ≤ x + 1
overshoot L x clock within some =
    let d1 : ℕ = due L x - 1 in
    let early = before_due L x d1 (omega arith) in
    let more = one_more L d1 clock (omega arith) in
    let same : L (d1 + 1) ≡ L (due L x) = ap L (omega arith) in
    omega arith

pub reads_nominal : (L : ℕ → ℕ) (x : ℕ) → IsClock L → 256000 < x → x ≤ 2 ^ 47 → (0 < due L x) × (x ≤ L (due L x)) × (L (due L x) ≤ x + 1)
reads_nominal L x clock past small =
    let some : 0 < due L x = due_after L x 0 clock (omega arith) (omega (arith, clock.begins)) in
    let is = due_is L x clock small in
    (some, is.0, overshoot L x clock (omega (arith, is.1)) some)

-- a tick at which the clock reads x, and before which it does not, is the due tick
pub due_unique : (L : ℕ → ℕ) (x t : ℕ) → IsClock L → x ≤ 2 ^ 47 → x ≤ L t → ((s : ℕ) → s < t → L s < x) → t ≡ due L x
due_unique L x t clock small at before =
    let upper : due L x ≤ t = due_at_most L x t at in
    let read = due_is L x clock small in
    elim (cases_lt (due L x) t) [ inl less ↦ absurd (omega (arith, before (due L x) less)) | inr same ↦ omega arith ]

-- a turnaround by the clock is one in true time, but for a tick
pub turn : (L : ℕ → ℕ) (t e : ℕ) → IsClock L → 2 ≤ t → t ≤ 49998 → e ≤ 2 ^ 45 → Near (due L (L e + t)) (e + t) 1
turn L t e clock some short within =
    let read = rounded L 0 e e clock (omega arith) (omega arith) in
    let late = over_short L e (t + 1) clock (omega arith) (omega arith) in
    let upper : due L (L e + t) ≤ e + (t + 1) = due_at_most L (L e + t) (e + (t + 1)) (omega arith) in
    let d : ℕ = t - 2 in
    let soon = over_short L e d clock (omega arith) (omega arith) in
    let lower : e + d < due L (L e + t) = due_after L (L e + t) (e + d) clock (omega arith) (omega arith) in
    omega arith
