-- Two clocks that drift as far as they may, in numbers that can be computed.
use Rattle.std.proofs.Common.{◌≡◌, ℕ, zero, suc, ◌+◌, ◌*◌, ◌/◌, ◌<◌, ◌≤◌, [], ◌∷◌, nat_le, refl, ap, arith}
use Rattle.std.specs.Prelude.{ℤ, pos, negsuc}
use Rattle.std.proofs.lemmas.Bool.{leb-true, le-leb}
use Rattle.std.proofs.Math.Path.{fun_ext}
use Rattle.tick_clock.specs.Clocks.{due}
use Rattle.tick_clock.specs.Rates.{rate_at, shifted}
use Rattle.tick_clock.specs.RatesLaw.{AreTame, count_before, reading_is}
use Rattle.tick_clock.proofs.DueTicks.{due_at_most, least_found}
use Rattle.law_trails.specs.OnePacket.{drifting}

-- where the least tick at which a clock comes to a number is known, that is the due tick
due_by : (L E : ℕ → ℕ) → ((x : ℕ) → x ≤ L (E x)) → ((x : ℕ) → E x < x + x / 40000 + 3) → ((x t : ℕ) → x ≤ L t → E x ≤ t)
    → (x : ℕ) → due L x ≡ E x
unfolding due
due_by L E reaches soon first x =
    let early : due L x ≤ E x = due_at_most L x (E x) (reaches x) in
    let long : due L x < x + x / 40000 + 3 = omega (arith, early, soon x) in
    let found = leb-true x (L (due L x)) (least_found (x + x / 40000 + 3) (λ t. nat_le x (L t)) long) in
    omega (arith, early, first x (due L x) found)

-- one rate from the start on
in_force : (z : ℤ) (t : ℕ) → rate_at ((0, z) ∷ []) t ≡ z
in_force z t = rw (le-leb 0 t (omega arith)) refl

counted : (z : ℤ) (t : ℕ) → count_before ((0, z) ∷ []) t ≡ shifted 1000000 z * t
unfolding count_before
counted z zero = omega arith
counted z (suc t) =
    let more : count_before ((0, z) ∷ []) (suc t) ≡ count_before ((0, z) ∷ []) t + shifted 1000000 z =
    ap (λ (r : ℤ). count_before ((0, z) ∷ []) t + shifted 1000000 r) (in_force z t) in
    omega (arith, more, counted z t)

abbrev pub fast : ℕ → ℕ
fast t = 1000020 * t / 1000000

abbrev pub fast_due : ℕ → ℕ
fast_due x = (1000000 * x + 1000019) / 1000020

abbrev pub slow : ℕ → ℕ
slow t = 999980 * t / 1000000

abbrev pub slow_due : ℕ → ℕ
slow_due x = (1000000 * x + 999979) / 999980

pub fast_dues : (x : ℕ) → due fast x ≡ fast_due x
fast_dues x = due_by fast fast_due (λ y. omega arith) (λ y. omega arith) (λ y t read. omega arith) x

pub slow_dues : (x : ℕ) → due slow x ≡ slow_due x
slow_dues x = due_by slow slow_due (λ y. omega arith) (λ y. omega arith) (λ y t read. omega arith) x

pub tame_fast : AreTame ((0, pos 20) ∷ [])
tame_fast = (omega arith, tt)

pub tame_slow : AreTame ((0, negsuc 19) ∷ [])
tame_slow = (omega arith, tt)

pub host_clock : drifting 1 ≡ fast
host_clock = fun_ext (λ t. omega (arith, reading_is 0 ((0, pos 20) ∷ []) t tame_fast, counted (pos 20) t))

pub member_clock : drifting 2 ≡ slow
member_clock = fun_ext (λ t. omega (arith, reading_is 0 ((0, negsuc 19) ∷ []) t tame_slow, counted (negsuc 19) t))
