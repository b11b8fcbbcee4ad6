-- Lines of words: one space is between words, and a line feed after each line.
use Rattle.std.specs.Prelude.{◌≡◌, ℕ, ◌<◌, List, [], ◌∷◌, ◌++◌, Contains, OnOk, Result, String, map, length, get_or, decimal, flat_map, string_bytes}
use Rattle.std.specs.List.{join_with_byte}
use denote.Param.Members.{Shared}
use denote.Ref.{Bor, MutBor}

-- a first word, and numbers after it
abbrev pub numbered : List ℕ → List ℕ → List (List ℕ)
numbered letters numbers = letters ∷ map decimal numbers

-- a line of these words
abbrev pub line_text : List (List ℕ) → List ℕ
line_text words = join_with_byte 32 words ++ 10 ∷ []

-- lines of these words
abbrev pub render : List (List (List ℕ)) → List ℕ
render lines = flat_map line_text lines

module _ {F T E Z : Type 0} (g : Shared F (MutBor (String Z) × (Bor T × Unit {0})) (Result (Unit {0}) E × (MutBor (String Z) × Unit {0}))) (write : F) where
  -- an Ok of it says that it wrote the line of the item after the text
  abbrev pub WritesEach : List T → (T → List ℕ) → Type 0
  WritesEach items line =
      (old : MutBor (String Z)) (item : Bor T) (result : Result (Unit {0}) E) (new : MutBor (String Z)) → Contains items item.now
      → g.post write (old, (item, tt)) (result, (new, tt)) → OnOk result (string_bytes new.now ≡ string_bytes old.now ++ line item.now)

module _ {F T E Z : Type 0} (g : Shared F (MutBor (String Z) × (ℕ × (Bor T × Unit {0}))) (Result (Unit {0}) E × (MutBor (String Z) × Unit {0}))) (write : F)
  where
    -- it may be called with a text, and any of the items with its place
    abbrev pub TakesPlaces : List T → Type 0
    TakesPlaces items =
        (text : MutBor (String Z)) (place : ℕ) (item : Bor T) → place < length items → item.now ≡ get_or items place item.now
        → g.pre write (text, (place, (item, tt)))

    -- an Ok of it says that it wrote the line of the item in its place
    abbrev pub WritesPlaces : List T → (ℕ × T → List ℕ) → Type 0
    WritesPlaces items line =
        (old : MutBor (String Z)) (place : ℕ) (item : Bor T) (result : Result (Unit {0}) E) (new : MutBor (String Z)) → place < length items
        → item.now ≡ get_or items place item.now
        → g.post write (old, (place, (item, tt))) (result, (new, tt)) → OnOk result (string_bytes new.now ≡ string_bytes old.now ++ line (place, item.now))
