-- Lists in the strictly ascending order of their items' codes.
use Rattle.std.specs.Prelude.{◌≡◌, ℕ, ◌<◌, ◌≤◌, List, [], ◌∷◌, Bool, ◌==◌, ◌||◌, nat_lt, if◌then◌else◌, is_some, Some, None, length, find, slice_get, ⊤}
use Rattle.std.specs.declared.option.Option.{Option}
use Rattle.std.specs.List.{prefix_len}
use Rattle.stream_table.specs.declared.code_order.Placement.{Placement}
use Rattle.stream_table.specs.declared.code_order.Placement.TheVariants.{Added, Replaced, Full}

-- each code is above this one
abbrev pub CodesAreAbove : {A : Type 0} → (A → ℕ) → ℕ → List A → Type 0
CodesAreAbove code c [] = ⊤
CodesAreAbove code c (x ∷ xs) = (c < code x) × CodesAreAbove code c xs

-- each code is below those after it
abbrev pub AscendsByCode : {A : Type 0} → (A → ℕ) → List A → Type 0
AscendsByCode code [] = ⊤
AscendsByCode code (x ∷ xs) = CodesAreAbove code (code x) xs × AscendsByCode code xs

-- in its place by code, and instead of one of the same code
abbrev pub placed : {A : Type 0} → (A → ℕ) → A → List A → List A
placed code a [] = a ∷ []
placed code a (x ∷ xs) = if code a == code x then a ∷ xs else if nat_lt (code a) (code x) then a ∷ x ∷ xs else x ∷ placed code a xs

abbrev pub item_of : {A : Type 0} → (A → ℕ) → List A → ℕ → Option A
item_of code xs c = find (λ x. code x == c) xs

abbrev pub is_below : {A : Type 0} → (A → ℕ) → ℕ → A → Bool
is_below code c x = nat_lt (code x) c

-- the item at this place has this code
pub record IsAtPlace {A : Type 0} (code : A → ℕ) (xs : List A) (c n : ℕ) : Type 0 where
  pub within : n < length xs
  pub item : A
  pub at : slice_get xs n ≡ Some item
  pub is : code item ≡ c
  pub found : item_of code xs c ≡ Some item

-- there is no item of this code, and here it would be
pub record IsGap {A : Type 0} (code : A → ℕ) (xs : List A) (c n : ℕ) : Type 0 where
  pub within : n ≤ length xs
  pub place : n ≡ prefix_len (is_below code c) xs
  pub missing : item_of code xs c ≡ None

-- a list with room for this many takes an item of this code: one of the code is there, or it is not full
abbrev pub finds_room : {A : Type 0} → (A → ℕ) → ℕ → List A → ℕ → Bool
finds_room code most xs c = is_some (item_of code xs c) || nat_lt (length xs) most

abbrev pub put_answer : {A : Type 0} → (A → ℕ) → ℕ → List A → ℕ → Placement
put_answer code most xs c = if is_some (item_of code xs c) then Replaced else if nat_lt (length xs) most then Added else Full
