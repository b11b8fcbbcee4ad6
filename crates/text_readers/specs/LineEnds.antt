-- Where the lines of a text end.
use Rattle.std.specs.Prelude.{◌≡◌, ◌⊎◌, List, [], ◌∷◌, ◌++◌, ℕ}
use Rattle.std.specs.Str.Lines.{lines}

-- a line ends with these bytes, whatever follows
abbrev pub EndLines : List ℕ → Type 0
EndLines front = (more : List ℕ) → lines (front ++ more) ≡ lines front ++ lines more

-- the bytes are those of one line and the rest, which is empty where nothing ends the line
pub record IsLineAndRest (bytes line rest : List ℕ) : Type 0 where
  pub front : List ℕ
  pub whole : bytes ≡ front ++ rest
  pub is : lines front ≡ line ∷ []
  pub ends : EndLines front ⊎ (rest ≡ [])
