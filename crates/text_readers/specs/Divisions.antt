-- A text, divided by its first line whose only word is a given one.
use Rattle.std.specs.Prelude.{◌≡◌, ℕ, List, [], ◌∷◌, Bool, not, ◌&&◌, ◌==◌, length, take, drop, Option, Some, None}
use Rattle.std.specs.List.{take_while}
use Rattle.std.specs.Str.{bytes_eq}
use Rattle.std.specs.Str.Lines.{lines}
use Rattle.text_readers.specs.Words.{words, word as word_at}

-- the only word of the line is this one
abbrev pub is_alone : List ℕ → List ℕ → Bool
is_alone word line = (length (words line) == 1) && bytes_eq (word_at (words line) 0) word

-- how many lines are above the first one whose only word is this one
abbrev pub count_above : List ℕ → List (List ℕ) → ℕ
count_above word ls = length (take_while (λ l. not (is_alone word l)) ls)

-- these lines are none, or one and those of the bytes below it
abbrev pub HasBelow : Option (List ℕ) → List (List ℕ) → Type 0
HasBelow None ls = ls ≡ []
HasBelow (Some below) ls = (line : List ℕ) × (ls ≡ line ∷ lines below)

-- the bytes have these above the first line whose only word is this one, which are `count` lines, and these below it, or no
-- such line
pub record IsDivided (word bytes above : List ℕ) (count : ℕ) (below : Option (List ℕ)) : Type 0 where
  pub lines_above : lines above ≡ take (count_above word (lines bytes)) (lines bytes)
  pub counted : count ≡ count_above word (lines bytes)
  pub lines_below : HasBelow below (drop (count_above word (lines bytes)) (lines bytes))
