-- The values of hexadecimal digits.
use Rattle.std.specs.Prelude.{ℕ, if◌then◌else◌}
use Rattle.std.specs.Char.{is_ascii_hexdigit, digit_value}

-- 0 for what is no digit
abbrev pub hex_value : ℕ → ℕ
hex_value c = if is_ascii_hexdigit c then digit_value c else 0
