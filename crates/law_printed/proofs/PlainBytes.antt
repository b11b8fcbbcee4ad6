-- Bytes of which none ends a line: those of numbers, words and hexadecimal digits, whatever the numbers are.
use Rattle.std.proofs.Common.{◌≡◌, ℕ, zero, suc, ◌+◌, ◌/◌, ◌%◌, ◌≤◌, List, [], ◌∷◌, ◌++◌, Bool, true, false, ◌==◌, nat_lt, nat_le, length, map, flat_map}
use Rattle.std.proofs.Common.{decimal, codes, if◌then◌else◌, arith}
use Rattle.std.proofs.lemmas.Bool.{cond_both, leb-true, and_parts}
use Rattle.std.specs.Fmt.{digit_glyph, digits, digits_onto}
use Rattle.std.specs.List.{AllByRecursion, join_with_byte, list_all}
use Rattle.lwb_base.proofs.Lists.{each_append}
use Rattle.text_writers.specs.HexWords.{hex_digits, hex_word, payload_word}
use Rattle.text_writers.specs.Lines.{numbered}

abbrev pub IsPlain : List ℕ → Type 0
IsPlain bytes = AllByRecursion (λ b. 32 ≤ b) bytes

glyph_plain : (d : ℕ) → 32 ≤ digit_glyph false d
glyph_plain d = cond_both (nat_lt d 10) (48 + d) (87 + d) (λ (b : ℕ). 32 ≤ b) (λ low. omega arith) (λ high. omega arith)

digits_plain : (k n : ℕ) (after : List ℕ) → IsPlain after → IsPlain (digits_onto k 10 false n after)
digits_plain zero n after all = all
digits_plain (suc k) n after all =
    cond_both (n / 10 == 0) (digit_glyph false (n % 10) ∷ after) (digits_onto k 10 false (n / 10) (digit_glyph false (n % 10) ∷ after)) IsPlain
    (λ last. (glyph_plain (n % 10), all)) (λ more. digits_plain k (n / 10) (digit_glyph false (n % 10) ∷ after) (glyph_plain (n % 10), all))

decimal_plain : (n : ℕ) → IsPlain (decimal n)
unfolding digits
decimal_plain n = digits_plain 64 n [] tt

numbers_plain : (ns : List ℕ) → AllByRecursion IsPlain (map decimal ns)
numbers_plain [] = tt
numbers_plain (n ∷ ns) = (decimal_plain n, numbers_plain ns)

pub hex_plain : (bytes : List ℕ) → IsPlain (hex_word bytes)
hex_plain [] = tt
hex_plain (b ∷ bytes) = (glyph_plain (b / 16), (glyph_plain (b % 16), hex_plain bytes))

pub payload_plain : (bytes : List ℕ) → IsPlain (payload_word bytes)
payload_plain bytes = cond_both (length bytes == 0) (codes "-") (hex_word bytes) IsPlain (λ none. (omega arith, tt)) (λ some. hex_plain bytes)

-- words without such a byte, with spaces between them
pub joined_plain : (ws : List (List ℕ)) → AllByRecursion IsPlain ws → IsPlain (join_with_byte 32 ws)
joined_plain [] all = tt
joined_plain (w ∷ []) all = all.0
joined_plain (w ∷ v ∷ ws) all =
    each_append (λ b. 32 ≤ b) w (32 ∷ join_with_byte 32 (v ∷ ws)) all.0 (omega arith, joined_plain (v ∷ ws) all.1)

-- a word, numbers, and words
pub numbered_plain : (word : List ℕ) (ns : List ℕ) (ws : List (List ℕ)) → IsPlain word → AllByRecursion IsPlain ws
    → IsPlain (join_with_byte 32 (numbered word ns ++ ws))
numbered_plain word ns ws is all =
    joined_plain (numbered word ns ++ ws) (is, each_append IsPlain (map decimal ns) ws (numbers_plain ns) all)

pub letters : (w : List ℕ) → list_all (nat_le 32) w ≡ true → IsPlain w
letters [] is = tt
letters (b ∷ w) is = let both = and_parts _ _ is in (leb-true 32 b both.0, letters w both.1)
