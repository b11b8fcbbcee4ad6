-- What is done to the entries of a table one by one.
use Rattle.std.specs.Prelude.{ℕ, ◌+◌, List, Bool, false, not, ◌&&◌, nat_lt, if◌then◌else◌, is_none, length, map}
use Rattle.std.specs.Option.{option_map_or}
use Rattle.bus_rules.specs.Tables.{TableEntry, Table, has_code, entry_of}
use Rattle.bus_rules.specs.Granting.{owed_to}

-- one slot more for this code
abbrev pub granted_once : ℕ → TableEntry → TableEntry
granted_once c e = record e { granted = if has_code c e then e.granted + 1 else e.granted }

abbrev pub grant_owner : ℕ → Table → Table
grant_owner c t = record t { entries = map (granted_once c) t.entries }

-- an entry of this code finds no room
abbrev pub is_full_for : List TableEntry → ℕ → Bool
is_full_for es c = is_none (entry_of es c) && not (nat_lt (length es) 32)

-- this code was missed 15 times in a row
abbrev pub misses_last : List TableEntry → ℕ → Bool
misses_last es c = option_map_or (λ e. nat_lt 14 e.unheard) (entry_of es c) false

-- 0 for an owner that is not there
abbrev pub owed_by : ℕ → ℕ → Table → ℕ → ℕ
owed_by seconds frame t c = option_map_or (owed_to seconds frame) (entry_of t.entries c) 0
