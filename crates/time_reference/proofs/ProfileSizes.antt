-- How large the numbers of a profile are.
use Rattle.std.proofs.Common.{◌≡◌, ◌≤◌, inl, inr, ap, arith}
use Rattle.lwb_base.specs.Profile.{Numbers, IsProfile}

pub record Sizes (p : Numbers) : Type 0 where
  pub byte : p.byte ≡ 2048
  pub turn : p.turn ≡ 12288
  pub listen : p.listen ≡ 64000
  pub lead : p.lead ≡ 64000000
  pub slot : p.slot ≤ 3584000
  pub frame : p.frame ≤ 320000000

pub sizes : (p : Numbers) → IsProfile p → Sizes p
sizes p (inl is) = record {
  byte = ap (λ (q : Numbers). q.byte) is;
  turn = ap (λ (q : Numbers). q.turn) is;
  listen = ap (λ (q : Numbers). q.listen) is;
  lead = ap (λ (q : Numbers). q.lead) is;
  slot = omega (arith, ap (λ (q : Numbers). q.slot) is);
  frame = omega (arith, ap (λ (q : Numbers). q.frame) is);
}
sizes p (inr is) = record {
  byte = ap (λ (q : Numbers). q.byte) is.0;
  turn = ap (λ (q : Numbers). q.turn) is.0;
  listen = ap (λ (q : Numbers). q.listen) is.0;
  lead = ap (λ (q : Numbers). q.lead) is.0;
  slot = omega (arith, ap (λ (q : Numbers). q.slot) is.0);
  frame = omega (arith, ap (λ (q : Numbers). q.frame) is.0);
}
