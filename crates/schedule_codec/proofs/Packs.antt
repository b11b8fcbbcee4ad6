-- Numbers that are packed into bytes one after another, and read back.
use Rattle.std.proofs.Common.{◌≡◌, ℕ, zero, suc, ◌+◌, ◌-◌, ◌*◌, ◌/◌, ◌^◌, ◌<◌, ◌≤◌, List, [], ◌∷◌, ◌++◌, true, length, get_or, take, sym, ◌∙◌, ap, subst, arith}
use Rattle.std.proofs.lemmas.Bool.{and_parts, ltb-true}
use Rattle.std.proofs.lemmas.List.{take_more}
use Rattle.std.proofs.lemmas.Nat.{pow-add, mul-le, same_from_place}
use Rattle.schedule_codec.specs.Packing.{fit, packed_number, digits, packed, bytes_for, fill, Packs}
use Rattle.schedule_codec.proofs.Numbers.{number_push, number-packed, packed_from, unpacked, each_fits, length-packed}

pub fit_at : (w : ℕ) (ds : List ℕ) (i : ℕ) → fit w ds ≡ true → i < length ds → get_or ds i 0 < 2 ^ w
fit_at w [] i fits below = absurd (omega arith)
fit_at w (d ∷ ds) zero fits below = ltb-true d (2 ^ w) (and_parts _ _ fits).0
fit_at w (d ∷ ds) (suc i) fits below = fit_at w ds i (and_parts _ _ fits).1 (omega arith)

-- one number more
pub number_more : (w : ℕ) (ds : List ℕ) (i : ℕ) → i < length ds → packed_number w (take (i + 1) ds) ≡ packed_number w (take i ds) * 2 ^ w + get_or ds i 0
number_more w ds i below = ap (λ l. packed_number w l) (take_more ds i 0 below) ∙ number_push w (take i ds) (get_or ds i 0)

-- at most 39 numbers of at most 10 bits
pub has_room : (i w : ℕ) → i < 39 → w ≤ 10 → i * w + w ≤ 390
has_room i w few narrow =
    let product = mul-le (i + 1) w 39 10 (omega arith) narrow in
    omega arith

pub same_numbers : (w count : ℕ) (bs ds es : List ℕ) → Packs w count bs ds → Packs w count bs es → ds ≡ es
same_numbers w count bs ds es p q =
    let of : (l : List ℕ) → Packs w count bs l → digits w count (packed_number 8 bs / 2 ^ (8 * length bs - count * w)) ≡ l =
    λ l r. subst (λ b. digits w count (packed_number 8 b / 2 ^ (8 * length b - count * w)) ≡ l) r.bytes
    (subst (λ n. digits w n (packed_number 8 (packed w l) / 2 ^ (8 * length (packed w l) - n * w)) ≡ l) r.many (unpacked w l r.fits)) in
    sym (of ds p) ∙ of es q

-- the bytes have the length that the numbers take
pub long_enough : (w count : ℕ) (bs ds : List ℕ) → Packs w count bs ds → length bs ≡ bytes_for (count * w)
long_enough w count bs ds p = ap length (sym p.bytes) ∙ length-packed w ds ∙ ap (λ n. bytes_for (n * w)) p.many

-- what was read is what was packed, where nothing but zero bits is left
pub packs_from : (w count left : ℕ) (bs ds : List ℕ) → ((k : ℕ) → get_or bs k 0 < 256) → length bs ≡ bytes_for (count * w)
    → left + count * w ≡ 8 * length bs → length ds ≡ count → fit w ds ≡ true
    → packed_number w ds * 2 ^ left ≡ packed_number 8 bs → Packs w count bs ds
packs_from w count left bs ds bytes long bits many fits is =
    let same : length ds * w ≡ count * w = ap (λ n. n * w) many in
    let filling : left ≡ fill (length ds * w) = omega arith in
    record {
      many = many;
      fits = fits;
      bytes = packed_from w ds bs (each_fits bs bytes) (omega arith) (sym is ∙ ap (λ k. packed_number w ds * 2 ^ k) filling);
    }

-- packed numbers leave nothing but zero bits
pub nothing_left : (w count left rest : ℕ) (bs ds es : List ℕ) → left + count * w ≡ 8 * length bs → rest < 2 ^ left
    → packed_number w ds * 2 ^ left + rest ≡ packed_number 8 bs → Packs w count bs es → rest ≡ 0
nothing_left w count left rest bs ds es bits below is p =
    let long = long_enough w count bs es p in
    let same : length es * w ≡ count * w = ap (λ n. n * w) p.many in
    let filling : fill (length es * w) ≡ left = omega arith in
    let total : packed_number w es * 2 ^ left + 0 ≡ packed_number 8 bs =
    omega (arith, ap (λ k. packed_number w es * 2 ^ k) filling, number-packed w es p.fits, ap (λ l. packed_number 8 l) p.bytes) in
    (same_from_place (packed_number w ds) rest (packed_number w es) 0 (2 ^ left) below (omega arith) (is ∙ sym total)).1

-- one number more was read
pub read_more : (w : ℕ) (ds : List ℕ) (d count value left rest : ℕ) → left + w ≡ count → d * 2 ^ left + rest ≡ value
    → packed_number w (ds ++ d ∷ []) * 2 ^ left + rest ≡ packed_number w ds * 2 ^ count + value
read_more w ds d count value left rest bits is =
    let pushed = ap (λ n. n * 2 ^ left) (number_push w ds d) in
    let order : count ≡ w + left = omega arith in
    let power = ap (λ m. packed_number w ds * m) (ap (λ i. 2 ^ i) order ∙ pow-add 2 w left) in
    omega arith

-- all numbers were read, and what is left is zero
pub all_read : (w count counter left rest : ℕ) (bs ds : List ℕ) → ((k : ℕ) → get_or bs k 0 < 256) → length bs ≡ bytes_for (count * w)
    → counter ≡ count → left + counter * w ≡ 8 * length bs → length ds ≡ counter
    → fit w ds ≡ true → packed_number w ds * 2 ^ left + rest ≡ packed_number 8 bs → rest ≡ 0 → Packs w count bs ds
all_read w count counter left rest bs ds bytes long all bits many fits is none =
    packs_from w count left bs ds bytes long (ap (λ n. left + n * w) (sym all) ∙ bits) (many ∙ all) fits (omega arith)
