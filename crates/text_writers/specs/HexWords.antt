-- How bytes are spelled in hexadecimal digits.
use Rattle.std.specs.Prelude.{ℕ, ◌/◌, ◌%◌, List, [], ◌∷◌, false, ◌==◌, if◌then◌else◌, length, codes, flat_map}
use Rattle.std.specs.Fmt.{digit_glyph}

-- a byte as two digits in lower case
abbrev pub hex_digits : ℕ → List ℕ
hex_digits b = digit_glyph false (b / 16) ∷ digit_glyph false (b % 16) ∷ []

-- bytes as two digits each
abbrev pub hex_word : List ℕ → List ℕ
hex_word bytes = flat_map hex_digits bytes

-- the one spelling of a payload in lower case
abbrev pub payload_word : List ℕ → List ℕ
payload_word bytes = if length bytes == 0 then codes "-" else hex_word bytes
