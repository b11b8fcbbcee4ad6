-- Numbers of w bits each as one number, and back.
use Rattle.std.proofs.Common.{◌≡◌, ℕ, zero, suc, ◌+◌, ◌-◌, ◌*◌, ◌/◌, ◌%◌, ◌^◌, ◌<◌, List, [], ◌∷◌, ◌++◌, true, fold, length, get_or, refl, sym, ◌∙◌, ap, arith}
use Rattle.std.proofs.Math.Nat.{mul-le-mul_right}
use Rattle.std.proofs.lemmas.Bool.{and_parts, and_from, ltb-true, lt-ltb}
use Rattle.std.proofs.lemmas.Nat.{pow-add, div-mul-add, mod-mul-add, mod-pow-add, shl_below, shl-shr, mod_low}
use Rattle.schedule_codec.specs.Packing.{fit, packed_number, digits, bytes_for, fill, packed}

-- one number after another, from a number that is before them
abbrev pub number_after : ℕ → ℕ → List ℕ → ℕ
number_after w n ds = fold (λ n d. n * 2 ^ w + d) n ds

none : (w : ℕ) → 2 ^ (0 * w) ≡ 1
none w = let zero_bits : 0 * w ≡ 0 = omega arith in ap (λ n. 2 ^ n) zero_bits

-- the power of one number more
pub power_more : (w k : ℕ) → 2 ^ (suc k * w) ≡ 2 ^ w * 2 ^ (k * w)
power_more w k = let more : suc k * w ≡ w + k * w = omega arith in ap (λ n. 2 ^ n) more ∙ pow-add 2 w (k * w)

pub after_is : (w n : ℕ) (ds : List ℕ) → number_after w n ds ≡ n * 2 ^ (length ds * w) + packed_number w ds
unfolding packed_number
after_is w n [] = rw (none w) (omega arith)
after_is w n (d ∷ ds) =
    let more = after_is w (n * 2 ^ w + d) ds in
    let first = after_is w (0 * 2 ^ w + d) ds in
    let power = ap (λ m. n * m) (power_more w (length ds)) in
    more ∙ omega (arith, first, power)

pub number_push : (w : ℕ) (ds : List ℕ) (d : ℕ) → packed_number w (ds ++ d ∷ []) ≡ packed_number w ds * 2 ^ w + d
unfolding packed_number
number_push w ds d = pushed 0 ds
  where
    pushed : (n : ℕ) (ds : List ℕ) → number_after w n (ds ++ d ∷ []) ≡ number_after w n ds * 2 ^ w + d
    pushed n [] = refl
    pushed n (e ∷ ds) = pushed (n * 2 ^ w + e) ds

pub number_cons : (w d : ℕ) (ds : List ℕ) → packed_number w (d ∷ ds) ≡ d * 2 ^ (length ds * w) + packed_number w ds
unfolding packed_number
number_cons w d ds = let first : 0 * 2 ^ w + d ≡ d = omega arith in ap (λ n. number_after w n ds) first ∙ after_is w d ds

pub number_below : (w : ℕ) (ds : List ℕ) → fit w ds ≡ true → packed_number w ds < 2 ^ (length ds * w)
unfolding packed_number
number_below w [] fits = rw (none w) (omega arith)
number_below w (d ∷ ds) fits =
    let both = and_parts _ _ fits in
    let below = ltb-true d (2 ^ w) both.0 in
    let rest = number_below w ds both.1 in
    let is = number_cons w d ds in
    let power = power_more w (length ds) in
    let product = mul-le-mul_right (2 ^ (length ds * w)) below in
    omega arith

pub length-digits : (w k n : ℕ) → length (digits w k n) ≡ k
unfolding digits
length-digits w zero n = refl
length-digits w (suc k) n = ap suc (length-digits w k n)

pub digits-after : (w n : ℕ) (ds : List ℕ) → fit w ds ≡ true → digits w (length ds) (number_after w n ds) ≡ ds
unfolding digits
digits-after w n [] fits = refl
digits-after w n (d ∷ ds) fits =
    let both = and_parts _ _ fits in
    let below = ltb-true d (2 ^ w) both.0 in
    let is = after_is w (n * 2 ^ w + d) ds in
    let high : number_after w (n * 2 ^ w + d) ds / 2 ^ (length ds * w) ≡ n * 2 ^ w + d = ap (λ m. m / 2 ^ (length ds * w)) is
    ∙ div-mul-add (n * 2 ^ w + d) (2 ^ (length ds * w)) (packed_number w ds) (number_below w ds both.1) in
    let first : number_after w (n * 2 ^ w + d) ds / 2 ^ (length ds * w) % 2 ^ w ≡ d = ap (λ m. m % 2 ^ w) high ∙ mod-mul-add n (2 ^ w) d below in
    ap (λ m. m ∷ digits w (length ds) (number_after w (n * 2 ^ w + d) ds)) first ∙ ap (λ l. d ∷ l) (digits-after w (n * 2 ^ w + d) ds both.1)

pub digits-number : (w : ℕ) (ds : List ℕ) → fit w ds ≡ true → digits w (length ds) (packed_number w ds) ≡ ds
unfolding packed_number
digits-number w ds fits = digits-after w 0 ds fits

pub nothing : (w : ℕ) → packed_number w [] ≡ 0
unfolding packed_number
nothing w = refl

-- the lowest k numbers leave what is above them out
pub number-digits : (w k n : ℕ) → packed_number w (digits w k n) ≡ n % 2 ^ (k * w)
unfolding digits
number-digits w zero n = rw (none w) (nothing w ∙ omega arith)
number-digits w (suc k) n =
    let more : w + k * w ≡ suc k * w = omega arith in
    number_cons w (n / 2 ^ (k * w) % 2 ^ w) (digits w k n)
    ∙ ap (λ i. n / 2 ^ (k * w) % 2 ^ w * 2 ^ (i * w) + packed_number w (digits w k n)) (length-digits w k n)
    ∙ ap (λ m. n / 2 ^ (k * w) % 2 ^ w * 2 ^ (k * w) + m) (number-digits w k n)
    ∙ sym (mod-pow-add n w (k * w))
    ∙ ap (λ i. n % 2 ^ i) more

mod_small : (n k : ℕ) → n < 2 ^ k → n % 2 ^ k ≡ n
mod_small n k below =
    let same : n ≡ 0 * 2 ^ k + n = omega arith in
    ap (λ m. m % 2 ^ k) same ∙ mod_low 0 k n below

-- the bits of whole bytes
pub bytes_hold : (bits : ℕ) → bits + fill bits ≡ 8 * bytes_for bits
bytes_hold bits = omega arith

pub length-packed : (w : ℕ) (ds : List ℕ) → length (packed w ds) ≡ bytes_for (length ds * w)
length-packed w ds = length-digits 8 (bytes_for (length ds * w)) (packed_number w ds * 2 ^ fill (length ds * w))

pub number-packed : (w : ℕ) (ds : List ℕ) → fit w ds ≡ true → packed_number 8 (packed w ds) ≡ packed_number w ds * 2 ^ fill (length ds * w)
number-packed w ds fits =
    let bits : ℕ = length ds * w in
    let below : packed_number w ds * 2 ^ fill bits < 2 ^ (bits + fill bits) = shl_below (packed_number w ds) bits (fill bits) (number_below w ds fits) in
    let whole : bits + fill bits ≡ bytes_for bits * 8 = omega (arith, bytes_hold bits) in
    let same : 2 ^ (bits + fill bits) ≡ 2 ^ (bytes_for bits * 8) = ap (λ n. 2 ^ n) whole in
    number-digits 8 (bytes_for bits) (packed_number w ds * 2 ^ fill bits) ∙ mod_small (packed_number w ds * 2 ^ fill bits) (bytes_for bits * 8) (omega arith)

-- bytes that make this number, and are as many as it takes, are the packed ones
pub packed_from : (w : ℕ) (ds bs : List ℕ) → fit 8 bs ≡ true → length bs ≡ bytes_for (length ds * w)
    → packed_number 8 bs ≡ packed_number w ds * 2 ^ fill (length ds * w) → packed w ds ≡ bs
packed_from w ds bs bytes long is =
    ap (λ k. digits 8 k (packed_number w ds * 2 ^ fill (length ds * w))) (sym long) ∙ ap (λ n. digits 8 (length bs) n) (sym is) ∙ digits-number 8 bs bytes

-- the numbers read back from packed bytes
pub unpacked : (w : ℕ) (ds : List ℕ) → fit w ds ≡ true
    → digits w (length ds) (packed_number 8 (packed w ds) / 2 ^ (8 * length (packed w ds) - length ds * w)) ≡ ds
unpacked w ds fits =
    let filled : 8 * length (packed w ds) - length ds * w ≡ fill (length ds * w) = ap (λ k. 8 * k - length ds * w) (length-packed w ds) in
    ap (λ k. digits w (length ds) (packed_number 8 (packed w ds) / 2 ^ k)) filled
    ∙ ap (λ n. digits w (length ds) (n / 2 ^ fill (length ds * w))) (number-packed w ds fits)
    ∙ ap (λ n. digits w (length ds) n) (shl-shr (packed_number w ds) (fill (length ds * w)))
    ∙ digits-number w ds fits

pub each_fits : (bs : List ℕ) → ((k : ℕ) → get_or bs k 0 < 256) → fit 8 bs ≡ true
each_fits [] below = refl
each_fits (b ∷ bs) below = and_from _ _ (lt-ltb b 256 (below 0)) (each_fits bs (λ k. below (suc k)))
