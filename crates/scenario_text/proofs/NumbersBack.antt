-- Numbers and payloads in their one spelling are read as themselves.
use Rattle.std.proofs.Common.{◌≡◌, ℕ, zero, suc, ◌+◌, ◌*◌, ◌/◌, ◌%◌, ◌^◌, ◌<◌, ◌≤◌, ℤ, pos, negsuc, List, [], ◌∷◌, Bool, true, false, not, ◌&&◌}
use Rattle.std.proofs.Common.{◌||◌, nat_le, ◌==◌, Some, None, length, drop, get_or, flat_map, codes, decimal, refl, sym, ◌∙◌, ap, subst, arith}
use Rattle.std.proofs.lemmas.Bool.{cond-true, cond-false, and_from, and_parts, and_right, or_left, or_right}
use Rattle.std.proofs.lemmas.Bool.{not_from_false, lt-ltb, le-leb, leb-true, eq-eqb, eqb-true, ne_eqb, agree_below_at}
use Rattle.std.proofs.lemmas.Fmt.{digits_decimal, digits_value-decimal, decimal_digit, decimal_nonempty, first_decimal, length-decimal-le}
use Rattle.std.proofs.lemmas.Str.Parse.{IsDigitsTest, IsNumeralModel, numerals_by_value}
use Rattle.std.specs.Char.{is_ascii_digit, is_ascii_hexdigit}
use Rattle.std.specs.Fmt.{signed_decimal, digit_glyph}
use Rattle.std.specs.Int.RustNames.{unsigned_abs}
use Rattle.std.specs.List.{AllByRecursion, list_all, slice_index}
use Rattle.std.specs.Str.{bytes_eq}
use Rattle.std.specs.Str.Parse.{digits_value}
use Rattle.text_readers.specs.Words.{is_number, number, has_minus, magnitude, is_signed}
use Rattle.scenario_text.specs.Network.{ppm}
use Rattle.text_writers.specs.HexWords.{payload_word, hex_digits}
use Rattle.scenario_text.specs.Payloads.{is_payload, payload, payload_bytes, hex_bytes, hex_value}
use Rattle.scenario_text.proofs.RatesKept.{map_all}
use Rattle.scenario_text.proofs.TextBack.{IsGlyph, IsWord}

abbrev IsDigits : List ℕ → Type 0
IsDigits ds = AllByRecursion (λ b. (48 ≤ b) × (b ≤ 57)) ds

tells : IsDigitsTest IsDigits
tells = record { empty = tt; parts = λ c cs all. all; more = λ c cs is all. (is, all) }

own : IsNumeralModel IsDigits (digits_value 10)
own = numerals_by_value IsDigits tells

all_digits : (ds : List ℕ) → IsDigits ds → list_all is_ascii_digit ds ≡ true
all_digits [] all = refl
all_digits (d ∷ ds) all = and_from _ _ (and_from _ _ (le-leb 48 d all.0.0) (le-leb d 57 all.0.1)) (all_digits ds all.1)

below_words : (n : ℕ) → n < 10000000000000 → n < 2 ^ 64
below_words n few = omega (arith, few)

one_or_not_zero : (n : ℕ) → n < 10000000000000 → ((length (decimal n) == 1) || not (slice_index (decimal n) 0 == 48)) ≡ true
one_or_not_zero zero few = or_left _ _ (eq-eqb (length (decimal zero)) 1 (ap length (decimal_digit zero (omega arith))))
one_or_not_zero (suc n) few =
    let first = first_decimal (suc n) (omega arith) (below_words (suc n) few) in
    or_right (length (decimal (suc n)) == 1) _ (not_from_false _ (ne_eqb (get_or (decimal (suc n)) 0 0) 48 (λ is. omega (arith, is, first))))

pub is_number_back : (n : ℕ) → n < 10000000000000 → is_number (decimal n) ≡ true
is_number_back n few =
    let small = below_words n few in
    and_from _ _
    (and_from _ _ (and_from _ _ (all_digits (decimal n) (digits_decimal own n small)) (lt-ltb 0 (length (decimal n)) (decimal_nonempty n small)))
    (le-leb (length (decimal n)) 13 (length-decimal-le 13 n (omega arith) (omega (arith, few)) small)))
    (one_or_not_zero n few)

pub number_back : (n : ℕ) → n < 10000000000000 → number (decimal n) ≡ n
number_back n few = cond-true (is_number (decimal n)) (digits_value 10 (decimal n)) 0 (is_number_back n few) ∙ digits_value-decimal own n (below_words n few)

pub decimal_word : (n : ℕ) → n < 10000000000000 → IsWord (decimal n)
decimal_word n few =
    let small = below_words n few in (
      decimal_nonempty n small,
      map_all (λ b. (48 ≤ b) × (b ≤ 57)) IsGlyph (decimal n)
          (λ b is. let low = is.0 in let high = is.1 in (omega (arith, low), omega (arith, high))) (digits_decimal own n small),
    )

-- millionths
no_minus : (ds : List ℕ) → IsDigits ds → has_minus ds ≡ false
no_minus [] all = refl
no_minus (d ∷ ds) all = let low = all.0.0 in ne_eqb d 45 (λ is. omega (arith, is, low))

pub record ReadsSigned (z : ℤ) : Type 0 where
  pub is_word : IsWord (signed_decimal z)
  pub right : is_signed (signed_decimal z) ≡ true
  pub back : ppm (has_minus (signed_decimal z)) (number (magnitude (signed_decimal z))) ≡ z
  pub size : number (magnitude (signed_decimal z)) ≡ unsigned_abs z

pub signed_back : (z : ℤ) → unsigned_abs z ≤ 20 → ReadsSigned z
signed_back (pos n) few =
    let w : List ℕ = decimal n in
    let small : n < 10000000000000 = omega (arith, few) in
    let plain = no_minus w (digits_decimal own n (below_words n small)) in
    let bare : magnitude w ≡ w = cond-false (has_minus w) (drop 1 w) w plain in
    record {
      is_word = decimal_word n small;
      right = and_from _ _ (ap is_number bare ∙ is_number_back n small) (ap (λ (b : Bool). not (b && (number (magnitude w) == 0))) plain);
      back = ap (λ (b : Bool). ppm b (number (magnitude w))) plain ∙ ap (λ (v : List ℕ). pos (number v)) bare ∙ ap pos (number_back n small);
      size = ap number bare ∙ number_back n small;
    }
signed_back (negsuc n) few =
    let w : List ℕ = decimal (suc n) in
    let small : suc n < 10000000000000 = omega (arith, few) in
    let word = decimal_word (suc n) small in
    record {
      is_word = (omega arith, ((omega arith, omega arith), word.1));
      right = and_from _ _ (is_number_back (suc n) small) (not_from_false _ (ne_eqb (number w) 0 (λ is. omega (arith, is, number_back (suc n) small))));
      back = ap (λ (m : ℕ). ppm true m) (number_back (suc n) small);
      size = number_back (suc n) small;
    }

-- payloads
abbrev glyph : ℕ → ℕ
glyph d = digit_glyph false d

glyph_value : (d : ℕ) → d < 16 → hex_value (glyph d) ≡ d
glyph_value d small = eqb-true _ _ (agree_below_at (λ d. hex_value (glyph d) == d) (λ d. true) 16 d refl small)

glyph_hex : (d : ℕ) → d < 16 → is_ascii_hexdigit (glyph d) ≡ true
glyph_hex d small = agree_below_at (λ d. is_ascii_hexdigit (glyph d)) (λ d. true) 16 d refl small

glyph_shown : (d : ℕ) → d < 16 → IsGlyph (glyph d)
glyph_shown d small =
    let both = and_parts (nat_le 33 (glyph d)) (nat_le (glyph d) 126)
    (agree_below_at (λ d. nat_le 33 (glyph d) && nat_le (glyph d) 126) (λ d. true) 16 d refl small) in
    (leb-true 33 (glyph d) both.0, leb-true (glyph d) 126 both.1)

abbrev AreBytes : List ℕ → Type 0
AreBytes bs = AllByRecursion (λ b. b < 256) bs

hex_back : (bs : List ℕ) → AreBytes bs → hex_bytes (flat_map hex_digits bs) ≡ bs
hex_back [] all = refl
hex_back (b ∷ bs) all =
    let small = all.0 in
    let high : hex_value (glyph (b / 16)) ≡ b / 16 = glyph_value (b / 16) (omega (arith, small)) in
    let low : hex_value (glyph (b % 16)) ≡ b % 16 = glyph_value (b % 16) (omega arith) in
    let byte : 16 * hex_value (glyph (b / 16)) + hex_value (glyph (b % 16)) ≡ b = omega (arith, high, low) in
    ap (λ (x : ℕ). x ∷ hex_bytes (flat_map hex_digits bs)) byte ∙ ap (λ (l : List ℕ). b ∷ l) (hex_back bs all.1)

all_hex : (bs : List ℕ) → AreBytes bs → list_all is_ascii_hexdigit (flat_map hex_digits bs) ≡ true
all_hex [] all = refl
all_hex (b ∷ bs) all =
    let small = all.0 in
    and_from _ _ (glyph_hex (b / 16) (omega (arith, small))) (and_from _ _ (glyph_hex (b % 16) (omega arith)) (all_hex bs all.1))

hex_length : (bs : List ℕ) → length (flat_map hex_digits bs) ≡ 2 * length bs
hex_length [] = refl
hex_length (b ∷ bs) = omega (arith, hex_length bs)

hex_glyphs : (bs : List ℕ) → AreBytes bs → AllByRecursion IsGlyph (flat_map hex_digits bs)
hex_glyphs [] all = tt
hex_glyphs (b ∷ bs) all =
    let small = all.0 in
    (glyph_shown (b / 16) (omega (arith, small)), (glyph_shown (b % 16) (omega arith), hex_glyphs bs all.1))

pub record ReadsPayload (bs w : List ℕ) : Type 0 where
  pub is_word : IsWord w
  pub right : is_payload w ≡ true
  pub back : payload w ≡ Some bs

pub payload_back : (bs : List ℕ) → AreBytes bs → length bs ≤ 96 → ReadsPayload bs (payload_word bs)
payload_back [] all few = record { is_word = (omega arith, ((omega arith, omega arith), tt)); right = refl; back = refl }
payload_back (b ∷ bs) all few =
    let w : List ℕ = flat_map hex_digits (b ∷ bs) in
    let not_dash : bytes_eq w (codes "-") ≡ false = and_right (glyph (b / 16) == 45) false refl in
    let bytes : payload_bytes w ≡ b ∷ bs = cond-false (bytes_eq w (codes "-")) [] (hex_bytes w) not_dash ∙ hex_back (b ∷ bs) all in
    let short : nat_le (length (payload_bytes w)) 96 ≡ true = ap (λ (l : List ℕ). nat_le (length l) 96) bytes ∙ le-leb (length (b ∷ bs)) 96 few in
    let spelled : payload_word (b ∷ bs) ≡ w = cond-false (length (b ∷ bs) == 0) (codes "-") w (ne_eqb (length (b ∷ bs)) 0 (λ is. omega (arith, is))) in
    subst (ReadsPayload (b ∷ bs)) (sym spelled) (record {
      is_word = (omega arith, hex_glyphs (b ∷ bs) all);
      right = or_right (bytes_eq w (codes "-")) _ (and_from _ _ (all_hex (b ∷ bs) all) (eq-eqb (length w % 2) 0 (omega (arith, hex_length (b ∷ bs)))));
      back = cond-true (nat_le (length (payload_bytes w)) 96) (Some (payload_bytes w)) None short ∙ ap Some bytes;
    })
