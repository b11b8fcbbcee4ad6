-- Bits that are written and read one number after another.
use Rattle.std.proofs.Common.{◌≡◌, ℕ, ◌+◌, ◌-◌, ◌*◌, ◌/◌, ◌%◌, ◌^◌, ◌<◌, ◌≤◌, List, [], ◌∷◌, ◌++◌, true, length}
use Rattle.std.proofs.Common.{refl, sym, ◌∙◌, ap, subst, arith, length-append, get_or, take, drop}
use Rattle.std.proofs.Math.Nat.{mul-le-mul_right}
use Rattle.std.proofs.lemmas.Bool.{and_from, lt-ltb}
use Rattle.std.proofs.lemmas.List.{take_all}
use Rattle.std.proofs.lemmas.List.Folds.{list_all-append}
use Rattle.std.proofs.lemmas.Nat.{pow-add, pow_pos, shl_whole, shr_split, one_shl, mod_below, shr_below, shl_below}
use Rattle.schedule_codec.specs.Packing.{fit, packed_number, digits, bytes_for, fill}
use Rattle.schedule_codec.proofs.Numbers.{number_push, number_cons, power_more, digits-number}

pub fit_push : (w : ℕ) (ds : List ℕ) (d : ℕ) → fit w ds ≡ true → d < 2 ^ w → fit w (ds ++ d ∷ []) ≡ true
fit_push w ds d fits below = list_all-append _ ds (d ∷ []) ∙ and_from _ _ fits (and_from _ _ (lt-ltb d (2 ^ w) below) refl)

-- pending bits with one number more
pub pending_more : (h p w : ℕ) → p < 2 ^ h → h + w ≤ 32 → p * 2 ^ w % 4294967296 ≡ p * 2 ^ w
pending_more h p w below few = shl_whole p h w 32 below few

pub value_more : (n h p w v : ℕ) → p < 2 ^ h → h + w ≤ 32 → n * 2 ^ (h + w) + (p * 2 ^ w % 4294967296 + v) ≡ (n * 2 ^ h + p) * 2 ^ w + v
value_more n h p w v below few =
    let pending = pending_more h p w below few in
    let power = ap (λ m. n * m) (pow-add 2 h w) in
    omega arith

pub below_more : (h p w v : ℕ) → p < 2 ^ h → h + w ≤ 32 → v < 2 ^ w → p * 2 ^ w % 4294967296 + v < 2 ^ (h + w)
below_more h p w v below few small =
    let pending = pending_more h p w below few in
    let power = pow-add 2 h w in
    let product = mul-le-mul_right (2 ^ w) below in
    omega arith

mask : (k : ℕ) → k < 32 → 1 * 2 ^ k % 4294967296 ≡ 2 ^ k
mask k few = one_shl k 32 few

-- eight of the pending bits make a byte
pub value_out : (bs : List ℕ) (p h k : ℕ) → h ≡ k + 8 → k < 32
    → packed_number 8 (bs ++ p / 2 ^ k ∷ []) * 2 ^ k + p % (1 * 2 ^ k % 4294967296) ≡ packed_number 8 bs * 2 ^ h + p
value_out bs p h k is few =
    let byte = ap (λ m. m * 2 ^ k) (number_push 8 bs (p / 2 ^ k)) in
    let rest = ap (λ m. p % m) (mask k few) in
    let split = shr_split p k in
    let power = ap (λ m. packed_number 8 bs * m) (ap (λ m. 2 ^ m) is ∙ pow-add 2 k 8) in
    omega arith

pub below_out : (p k : ℕ) → k < 32 → p % (1 * 2 ^ k % 4294967296) < 2 ^ k
below_out p k few = rw (mask k few) (mod_below p (2 ^ k) (pow_pos k))

pub byte_out : (p h k : ℕ) → h ≡ k + 8 → p < 2 ^ h → p / 2 ^ k < 256
byte_out p h k is below =
    let order : h ≡ 8 + k = omega arith in
    shr_below p 8 k (subst (λ m. p < 2 ^ m) order below)

-- a byte for the bits that are left, filled up with zero bits
pub byte_filled : (p h k : ℕ) → h + k ≡ 8 → p < 2 ^ h → (p * 2 ^ k % 4294967296 ≡ p * 2 ^ k) × (p * 2 ^ k < 256)
byte_filled p h k is below = (
  pending_more h p k below (omega arith),
  (let fits : p * 2 ^ k < 2 ^ (h + k) = shl_below p h k below in subst (λ i. p * 2 ^ k < 2 ^ i) is fits),
)

pub filled_up : (bs : List ℕ) (p h k count value : ℕ) → 8 * length bs + h ≡ count → packed_number 8 bs * 2 ^ h + p ≡ value → 0 < h → h + k ≡ 8
    → p < 2 ^ h → fit 8 bs ≡ true
    → bs ++ p * 2 ^ k % 4294967296 ∷ [] ≡ digits 8 (bytes_for count) (value * 2 ^ fill count)
filled_up bs p h k count value counted is some left below fits =
    let byte = byte_filled p h k left below in
    let whole : List ℕ = bs ++ p * 2 ^ k % 4294967296 ∷ [] in
    let small : p * 2 ^ k % 4294967296 < 256 = omega arith in
    let long : length whole ≡ bytes_for count = omega (arith, length-append bs (p * 2 ^ k % 4294967296 ∷ [])) in
    let filling : k ≡ fill count = omega arith in
    let power : 2 ^ (h + k) ≡ 2 ^ h * 2 ^ k = pow-add 2 h k in
    let eight : 256 ≡ 2 ^ h * 2 ^ k = sym (ap (λ i. 2 ^ i) left) ∙ power in
    let product = ap (λ m. packed_number 8 bs * m) eight in
    let pushed = number_push 8 bs (p * 2 ^ k % 4294967296) in
    let worth = ap (λ n. n * 2 ^ k) (sym is) in
    let total : packed_number 8 whole ≡ value * 2 ^ k = omega arith in
    sym (digits-number 8 whole (fit_push 8 bs (p * 2 ^ k % 4294967296) fits small))
    ∙ ap (λ i. digits 8 i (packed_number 8 whole)) long
    ∙ ap (λ n. digits 8 (bytes_for count) n) (total ∙ ap (λ i. value * 2 ^ i) filling)

-- nothing is left
pub filled_already : (bs : List ℕ) (p count value : ℕ) → 8 * length bs + 0 ≡ count → packed_number 8 bs * 2 ^ 0 + p ≡ value → p < 1
    → fit 8 bs ≡ true → bs ≡ digits 8 (bytes_for count) (value * 2 ^ fill count)
filled_already bs p count value counted is below fits =
    let long : length bs ≡ bytes_for count = omega arith in
    let filling : 0 ≡ fill count = omega arith in
    let total : packed_number 8 bs ≡ value * 2 ^ 0 = omega arith in
    sym (digits-number 8 bs fits)
    ∙ ap (λ i. digits 8 i (packed_number 8 bs)) long
    ∙ ap (λ n. digits 8 (bytes_for count) n) (total ∙ ap (λ i. value * 2 ^ i) filling)

-- the first byte joins the pending bits
pub value_in : (bs : List ℕ) (p b : ℕ) → 1 ≤ length bs → b ≡ get_or bs 0 0
    → (let rest = take (length bs - 1) (drop 1 bs) in
    (length rest + 1 ≡ length bs) × ((p * 256 + b) * 2 ^ (length rest * 8) + packed_number 8 rest ≡ p * 2 ^ (length bs * 8) + packed_number 8 bs))
value_in [] p b some is = absurd (omega arith)
value_in (x ∷ xs) p b some is =
    let left : take (length (x ∷ xs) - 1) xs ≡ xs = take_all (length (x ∷ xs) - 1) xs (omega arith) in
    let first = ap (λ n. n * 2 ^ (length xs * 8)) is in
    let cons = number_cons 8 x xs in
    let power = ap (λ m. p * m) (power_more 8 (length xs)) in
    subst (λ (l : List ℕ). (length l + 1 ≡ length (x ∷ xs))
    × ((p * 256 + b) * 2 ^ (length l * 8) + packed_number 8 l ≡ p * 2 ^ (length (x ∷ xs) * 8) + packed_number 8 (x ∷ xs))) (sym left)
    (omega arith, omega arith)

pub below_in : (p h b : ℕ) → p < 2 ^ h → b < 256 → p * 256 + b < 2 ^ (h + 8)
below_in p h b below byte =
    let product = mul-le-mul_right 256 below in
    let power = pow-add 2 h 8 in
    omega arith

-- the first of the pending bits are taken, and k are left
pub below_left : (p k : ℕ) → k < 64 → p % (1 * 2 ^ k % 18446744073709551616) < 2 ^ k
below_left p k few = rw (one_shl k 64 few) (mod_below p (2 ^ k) (pow_pos k))

pub value_taken : (p k bytes n : ℕ) → k < 64
    → p / 2 ^ k * 2 ^ (8 * bytes + k) + (p % (1 * 2 ^ k % 18446744073709551616) * 2 ^ (bytes * 8) + n) ≡ p * 2 ^ (bytes * 8) + n
value_taken p k bytes n few =
    let order : 8 * bytes + k ≡ k + bytes * 8 = omega arith in
    let power = ap (λ m. p / 2 ^ k * m) (ap (λ i. 2 ^ i) order ∙ pow-add 2 k (bytes * 8)) in
    let rest = ap (λ m. p % m * 2 ^ (bytes * 8)) (one_shl k 64 few) in
    let split = ap (λ m. m * 2 ^ (bytes * 8)) (shr_split p k) in
    omega arith

pub below_taken : (p h w k : ℕ) → p < 2 ^ h → h ≡ w + k → p / 2 ^ k < 2 ^ w
below_taken p h w k below is = shr_below p w k (subst (λ i. p < 2 ^ i) is below)

pub no_bytes : (bs : List ℕ) (p : ℕ) → length bs ≡ 0 → p * 2 ^ (length bs * 8) + packed_number 8 bs ≡ p
unfolding packed_number
no_bytes [] p none = omega arith
no_bytes (b ∷ bs) p none = absurd (omega arith)
