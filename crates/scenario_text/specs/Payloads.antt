-- How payloads are spelled.
use Rattle.std.specs.Prelude.{ℕ, ◌+◌, ◌*◌, ◌%◌, List, [], ◌∷◌, Bool, ◌&&◌, ◌||◌, ◌==◌, nat_le, if◌then◌else◌, Some, None, Option, length, codes}
use Rattle.std.specs.Char.{is_ascii_hexdigit}
use Rattle.std.specs.List.{list_all}
use Rattle.std.specs.Str.{bytes_eq}
pub use Rattle.text_readers.specs.Hex.{hex_value}

-- `-`, or an even count of hexadecimal digits
abbrev pub is_payload : List ℕ → Bool
is_payload w = bytes_eq w (codes "-") || (list_all is_ascii_hexdigit w && (length w % 2 == 0))

-- a byte for two digits
abbrev pub hex_bytes : List ℕ → List ℕ
hex_bytes [] = []
hex_bytes (a ∷ []) = []
hex_bytes (a ∷ b ∷ digits) = (16 * hex_value a + hex_value b) ∷ hex_bytes digits

abbrev pub payload_bytes : List ℕ → List ℕ
payload_bytes w = if bytes_eq w (codes "-") then [] else hex_bytes w

-- the payload, if it has 96 bytes at most
abbrev pub payload : List ℕ → Option (List ℕ)
payload w = if nat_le (length (payload_bytes w)) 96 then Some (payload_bytes w) else None
