-- No window counts much.
use Rattle.std.proofs.Common.{◌≡◌, ℕ, ◌+◌, ◌-◌, ◌*◌, ◌^◌, ◌≤◌, inl, inr, ap, arith, mul-le-mul_right}
use Rattle.lwb_base.specs.Profile.{Numbers, IsProfile, step}

pub small_sending : (p : Numbers) (k n : ℕ) → IsProfile p → k ≤ 255 → n ≤ 125 → p.listen + (k + 1) * step p n - p.turn ≤ 2 ^ 28
small_sending p k n (inl is) few short =
    let times : (k + 1) * step p n ≤ 256 * step p n = mul-le-mul_right (step p n) (omega (arith, few)) in
    let one : step p n ≡ (n + 8) * 2048 + 12288 = ap (λ (q : Numbers). step q n) is in
    let listen : p.listen ≡ 64000 = ap (λ (q : Numbers). q.listen) is in
    omega (arith, times, one, listen, short)
small_sending p k n (inr is) few short =
    let times : (k + 1) * step p n ≤ 256 * step p n = mul-le-mul_right (step p n) (omega (arith, few)) in
    let one : step p n ≡ (n + 8) * 2048 + 12288 = ap (λ (q : Numbers). step q n) is.0 in
    let listen : p.listen ≡ 64000 = ap (λ (q : Numbers). q.listen) is.0 in
    omega (arith, times, one, listen, short)
