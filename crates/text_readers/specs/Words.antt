-- The words of a line, and what they spell. The lines of a text are cut at each line feed, and one carriage return before it
-- is dropped: `lines` of std says so.
use Rattle.std.specs.Prelude.{ℕ, List, [], Bool, not, ◌&&◌, ◌||◌, ◌==◌, nat_lt, nat_le, if◌then◌else◌, Some}
use Rattle.std.specs.Prelude.{None, Option, length, drop, filter, slice_index, slice_index_or}
use Rattle.std.specs.Char.{is_ascii_digit}
use Rattle.std.specs.List.{slice_split, list_all}
use Rattle.std.specs.Str.Parse.{digits_value}

-- a space or a tab
abbrev pub is_blank : ℕ → Bool
is_blank b = (b == 32) || (b == 9)

-- what is between blanks
abbrev pub words : List ℕ → List (List ℕ)
words line = filter (λ w. nat_lt 0 (length w)) (slice_split is_blank line)

-- word i, where the first is word 0
abbrev pub word : List (List ℕ) → ℕ → List ℕ
word ws i = slice_index_or ws i []

-- a line without words, or one whose first word begins with `#`
abbrev pub is_skipped : List (List ℕ) → Bool
is_skipped ws = (length ws == 0) || (slice_index (word ws 0) 0 == 35)

-- one digit, or up to 13 digits of which the first is not 0
abbrev pub is_number : List ℕ → Bool
is_number w = list_all is_ascii_digit w && nat_lt 0 (length w) && nat_le (length w) 13 && ((length w == 1) || not (slice_index w 0 == 48))

abbrev pub number : List ℕ → ℕ
number w = if is_number w then digits_value 10 w else 0

-- the word begins with `-`
abbrev pub has_minus : List ℕ → Bool
has_minus w = slice_index w 0 == 45

-- the word without the `-` before it
abbrev pub magnitude : List ℕ → List ℕ
magnitude w = if has_minus w then drop 1 w else w

-- a number, or `-` and a number that is not 0
abbrev pub is_signed : List ℕ → Bool
is_signed w = is_number (magnitude w) && not (has_minus w && (number (magnitude w) == 0))

-- the number that word i is
abbrev pub number_at : List (List ℕ) → ℕ → ℕ
number_at ws i = number (word ws i)

-- the line, if it has this many words
abbrev pub line_of_words : {L : Type 0} → ℕ → List (List ℕ) → L → Option L
line_of_words n ws l = if length ws == n then Some l else None
