-- How many bytes packets have, by what they say.
use Rattle.std.proofs.Common.{◌≡◌, ℕ, ◌+◌, ◌*◌, ◌≤◌, List, [], ◌∷◌, length, ◌==◌, true, inl, inr, arith}
use Rattle.std.proofs.Math.Nat.{mul-le-mul_right}
use Rattle.std.proofs.lemmas.Bool.{cases_eq, cond-true, cond-false, eq-eqb, ne_eqb}
use Rattle.lwb_base.specs.Messages.{Schedule, length_of, owners_length, width_of, differences}
use Rattle.schedule_codec.specs.OwnerLists.{are_owners}
use Rattle.schedule_codec.proofs.Readings.{Parts}
use Rattle.schedule_codec.proofs.Widths.{codes_of, differences_fit, width_fits}

owners_long : (cs : List ℕ) → are_owners cs ≡ true → (1 ≤ owners_length cs) × (owners_length cs ≤ 52)
owners_long [] are = (omega arith, omega arith)
owners_long (c ∷ cs) are =
    let codes = codes_of c cs are in
    let few = codes.few in
    let ds : List ℕ = differences (c ∷ cs) in
    let narrow = (width_fits ds (differences_fit c cs codes.others)).1 in
    let bits = mul-le-mul_right (width_of ds) few in
    (omega arith, omega arith)

pub record Long (s : Schedule) : Type 0 where
  pub least : 7 ≤ length_of s
  pub most : length_of s ≤ 74
  pub short : s.plan.contend ≡ 0 → length_of s ≤ 61

pub schedule_long : (s : Schedule) (slot counter : ℕ) → Parts s slot counter → Long s
schedule_long s slot counter parts =
    let owned = owners_long s.plan.owners parts.owners in
    elim (cases_eq s.plan.contend 0) [
      | inl none ↦ (
          let head = cond-true {A = ℕ} (s.plan.contend == 0) 9 (6 + 4 * length s.plan.acks) (eq-eqb s.plan.contend 0 none) in
          record { least = omega (arith, head, owned); most = omega (arith, head, owned); short = λ is. omega (arith, head, owned) }
          )
      | inr some ↦ (
          let head = cond-false {A = ℕ} (s.plan.contend == 0) 9 (6 + 4 * length s.plan.acks) (ne_eqb s.plan.contend 0 some) in
          let four = cond-false {A = ℕ} (s.plan.contend == 0) 1 4 (ne_eqb s.plan.contend 0 some) in
          let few = parts.few in
          record { least = omega (arith, head, owned); most = omega (arith, head, owned, four, few); short = λ is. absurd (some is) }
          )
    ]
