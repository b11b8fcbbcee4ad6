-- Acknowledgements and grants, counted.
use Rattle.std.proofs.Common.{◌≡◌, ℕ, zero, suc, ◌+◌, ◌≤◌, ◌==◌, List, [], ◌∷◌, length, replicate, Bool, cond, if◌then◌else◌}
use Rattle.std.proofs.Common.{nat_le, nat_lt, sum_by, refl, ◌∙◌, ap, arith, eq-eqb}
use Rattle.std.proofs.lemmas.Bool.{cond_both}
use Rattle.std.proofs.lemmas.List.Sums.{sum_by-cons}
use Rattle.lwb_base.specs.Messages.{Ask, code_of}
use Rattle.bus_rules.specs.Granting.{Grants, count_of, given, granted_by, grants_for, last_code, share_in}
use Rattle.bus_rules.specs.HostPlans.{with_ack}
use Rattle.bus_rules.specs.Tables.{TableEntry, Table}

-- a list of acknowledgements has one more at most
pub with_few : (a : Ask) (xs : List Ask) → length (with_ack a xs) ≤ length xs + 1
with_few a [] = omega arith
with_few a (x ∷ xs) =
    let rest = with_few a xs in
    cond_both (code_of a == code_of x) (a ∷ xs) (if nat_lt (code_of a) (code_of x) then a ∷ x ∷ xs else x ∷ with_ack a xs)
    (λ (l : List Ask). length l ≤ length (x ∷ xs) + 1)
    (λ same. omega arith)
    (λ other. cond_both (nat_lt (code_of a) (code_of x)) (a ∷ x ∷ xs) (x ∷ with_ack a xs) (λ (l : List Ask). length l ≤ length (x ∷ xs) + 1)
    (λ less. omega arith) (λ more. omega arith))

pub gap_stays : (owes : TableEntry → ℕ) (gap : ℕ) (t : Table) → (grants_for owes gap t).gap ≡ gap
gap_stays owes gap t =
    cond_both (nat_le (sum_by owes t.entries) 40) (granted_by owes gap t.place t.entries)
    (granted_by (share_in (given owes t)) gap (last_code (given owes t) + 1) t.entries) (λ (g : Grants). g.gap ≡ gap)
    (λ fit. refl) (λ turns. refl)

pub count_replicate : (c n : ℕ) → count_of c (replicate n c) ≡ n
count_replicate c zero = refl
count_replicate c (suc n) =
    let p = sum_by-cons (λ (y : ℕ). cond (y == c) 1 0) c (replicate n c)
    ∙ ap (λ (b : Bool). cond b 1 0 + count_of c (replicate n c)) (eq-eqb c c refl) in
    let r = count_replicate c n in
    omega (arith, p, r)
