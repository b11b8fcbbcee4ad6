-- What a window counts, by how often its node sent and the last step in which it did.
use Rattle.std.proofs.Common.{◌≡◌, ◌≤◌, ◌==◌, ◌+◌, ◌-◌, ◌*◌, ℕ, List, [], ◌∷◌, Bool, true, false, inl, inr, Option, Some, None, if◌then◌else◌, length, map}
use Rattle.std.proofs.Common.{refl, sym, ◌∙◌, ap, arith}
use Rattle.std.specs.List.{last_or}
use Rattle.std.specs.Option.{option_map}
use Rattle.std.proofs.Math.Nat.{mul-le-mul_right}
use Rattle.std.proofs.lemmas.Bool.{eq-eqb, ne_eqb}
use Rattle.std.proofs.lemmas.List.{length-map}
use Rattle.lwb_base.specs.Profile.{Numbers, IsProfile, step, airtime}
use Rattle.bus_rules.specs.Charges.{charge, last_if_all_sent}
use Rattle.plain_bus.specs.SlotCosts.{sent_as, window_charge}

pub record Small (p : Numbers) : Type 0 where
  pub byte : p.byte ≡ 2048
  pub turn : p.turn ≡ 12288
  pub listen : p.listen ≡ 64000
  pub close : p.close ≤ 3568000

pub small_numbers : (p : Numbers) → IsProfile p → Small p
small_numbers p (inl one) = record {
  byte = ap (λ (q : Numbers). q.byte) one;
  turn = ap (λ (q : Numbers). q.turn) one;
  listen = ap (λ (q : Numbers). q.listen) one;
  close = (let is = ap (λ (q : Numbers). q.close) one in omega (arith, is));
}
small_numbers p (inr two) = record {
  byte = ap (λ (q : Numbers). q.byte) two.0;
  turn = ap (λ (q : Numbers). q.turn) two.0;
  listen = ap (λ (q : Numbers). q.listen) two.0;
  close = (let is = ap (λ (q : Numbers). q.close) two.0 in omega (arith, is));
}

-- how long a packet is on the air, and a step is
pub air_bound : (p : Numbers) → IsProfile p → (n : ℕ) → n ≤ 255 → airtime p n ≤ 538624
air_bound p is n few =
    let same : (n + 8) * p.byte ≡ (n + 8) * 2048 = ap (λ (b : ℕ). (n + 8) * b) (small_numbers p is).byte in
    omega (arith, same, few)

pub sent_bound : (p : Numbers) → IsProfile p → (n count : ℕ) → n ≤ 255 → count ≤ 12 → count * airtime p n ≤ 8388608
sent_bound p is n count few times = omega (arith, mul-le-mul_right (airtime p n) times, air_bound p is n few)

pub window_bound : (p : Numbers) → IsProfile p → (n k : ℕ) → n ≤ 255 → k ≤ 11 → p.listen + (k + 1) * step p n ≤ 8388608
window_bound p is n k few early =
    let small = small_numbers p is in
    let twelve : k + 1 ≤ 12 = omega (arith, early) in
    let steps = mul-le-mul_right (step p n) twelve in
    omega (arith, small.listen, small.turn, steps, air_bound p is n few)

last_mapped : (g : ℕ → ℕ × ℕ) (o : Option ℕ) (ks : List ℕ) → last_or (option_map g o) (map g ks) ≡ option_map g (last_or o ks)
last_mapped g o [] = refl
last_mapped g o (k ∷ ks) = last_mapped g (Some k) ks

-- what the last transmission is by the count and the last step
pub last_told : (limit bytes count : ℕ) (last : Option ℕ) (ks : List ℕ) → count ≡ length ks → last ≡ last_or None ks
    → last_if_all_sent limit (sent_as bytes ks) ≡ (if count == limit then option_map (λ (k : ℕ). (k, bytes)) last else None)
last_told limit bytes count last ks size is =
    let g : ℕ → ℕ × ℕ = λ k. (k, bytes) in
    ap (λ (n : ℕ). if n == limit then last_or None (map g ks) else None) (length-map ks g ∙ sym size)
    ∙ ap (λ (o : Option (ℕ × ℕ)). if count == limit then o else None) (last_mapped g None ks ∙ ap (option_map g) (sym is))

module _ (p : Numbers) (limit bytes count : ℕ) (is_open : Bool) (last : Option ℕ) (ks : List ℕ) (opened : is_open ≡ true) (size : count ≡ length ks)
    (is : last ≡ last_or None ks) where
  told : window_charge p limit is_open bytes ks ≡ charge p (if count == limit then option_map (λ (k : ℕ). (k, bytes)) last else None)
  told = ap (λ (b : Bool). if b then charge p (last_if_all_sent limit (sent_as bytes ks)) else 0) opened
      ∙ ap (charge p) (last_told limit bytes count last ks size is)

  -- the node sent as often as it may
  pub window_full : (k : ℕ) → last ≡ Some k → count ≡ limit → window_charge p limit is_open bytes ks ≡ p.listen + (k + 1) * step p bytes - p.turn
  window_full k at full =
      told ∙ ap (λ (b : Bool). charge p (if b then option_map (λ (k : ℕ). (k, bytes)) last else None)) (eq-eqb count limit full)
      ∙ ap (λ (o : Option ℕ). charge p (option_map (λ (k : ℕ). (k, bytes)) o)) at

  -- or less often
  pub window_unfull : (count ≡ limit → ⊥) → window_charge p limit is_open bytes ks ≡ p.close
  window_unfull less = told ∙ ap (λ (b : Bool). charge p (if b then option_map (λ (k : ℕ). (k, bytes)) last else None)) (ne_eqb count limit less)

  pub window_silent : last ≡ None → window_charge p limit is_open bytes ks ≡ p.close
  window_silent none = told ∙ ap (λ (o : Option ℕ). charge p (if count == limit then option_map (λ (k : ℕ). (k, bytes)) o else None)) none
      ∙ by_count (count == limit)
    where
      by_count : (b : Bool) → charge p (if b then None else None) ≡ p.close
      by_count true = refl
      by_count false = refl
