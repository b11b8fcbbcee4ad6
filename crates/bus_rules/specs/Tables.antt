-- The table of a host: which streams were accepted, by ascending owner code.
use Rattle.std.specs.Prelude.{ℕ, ◌+◌, ◌<◌, ◌≤◌, List, [], ◌∷◌, Bool, false, not, ◌&&◌, ◌==◌, nat_lt}
use Rattle.std.specs.Prelude.{if◌then◌else◌, is_none, Some, None, map, length, find, filter, filter_map, ⊤}
use Rattle.std.specs.declared.option.Option.{Option}
use Rattle.std.specs.Option.{option_map_or}
use Rattle.lwb_base.specs.Messages.{Ask, code_of}

-- an accepted stream: its owner code, the boot of its node and its interval, the frame in which it was accepted, the
-- slots granted since, and the data slots in a row in which it was not received
pub record TableEntry : Type 0 where
  pub code : ℕ
  pub boot : ℕ
  pub interval : ℕ
  pub accepted : ℕ
  pub granted : ℕ
  pub unheard : ℕ

-- place: where the turns begin
pub record Table : Type 0 where
  pub entries : List TableEntry
  pub place : ℕ

abbrev pub no_table : Table
no_table = record { entries = []; place = 0 }

-- each code is above this one
abbrev pub EntriesAreAbove : ℕ → List TableEntry → Type 0
EntriesAreAbove c [] = ⊤
EntriesAreAbove c (e ∷ es) = (c < e.code) × EntriesAreAbove c es

-- each code is below those after it
abbrev pub EntriesAscend : List TableEntry → Type 0
EntriesAscend [] = ⊤
EntriesAscend (e ∷ es) = EntriesAreAbove e.code es × EntriesAscend es

-- what holds of the entries of a table at all times
pub record AreEntries (es : List TableEntry) : Type 0 where
  pub few : length es ≤ 32
  pub ascends : EntriesAscend es

abbrev pub has_code : ℕ → TableEntry → Bool
has_code c e = e.code == c

abbrev pub code_in : TableEntry → ℕ
code_in e = e.code

abbrev pub entry_of : List TableEntry → ℕ → Option TableEntry
entry_of es c = find (has_code c) es

abbrev pub without : ℕ → List TableEntry → List TableEntry
without c es = filter (λ e. not (has_code c e)) es

-- in its place by code, and instead of one of the same code
abbrev pub with_entry : TableEntry → List TableEntry → List TableEntry
with_entry e [] = e ∷ []
with_entry e (x ∷ es) = if e.code == x.code then e ∷ es else if nat_lt e.code x.code then e ∷ x ∷ es else x ∷ with_entry e es

-- a request that adds an entry finds no room
abbrev pub is_full : Ask → Table → Bool
is_full a t = not (a.interval == 0) && not (nat_lt (length t.entries) 32) && is_none (entry_of t.entries (code_of a))

abbrev pub new_entry : Ask → ℕ → TableEntry
new_entry a frame = record { code = code_of a; boot = a.boot; interval = a.interval; accepted = frame; granted = 0; unheard = 0 }

-- the table after a request in this frame. The interval 0 removes the entry of the code
abbrev pub after_request : ℕ → Table → Ask → Table
after_request frame t a =
    record t {
      entries =
          if is_full a t then t.entries
          else if a.interval == 0 then without (code_of a) t.entries
          else with_entry (new_entry a frame) t.entries;
    }

abbrev pub removed : ℕ → Table → Table
removed c t = record t { entries = without c t.entries }

abbrev pub interval_in : TableEntry → ℕ
interval_in e = e.interval

-- 0 for none
abbrev pub interval_of : Table → ℕ → ℕ
interval_of t c = option_map_or interval_in (entry_of t.entries c) 0

-- a data slot of this owner in which the host accepted a packet or initiated one
abbrev pub entry_after_data : ℕ → TableEntry → TableEntry
entry_after_data c e = record e { unheard = if has_code c e then 0 else e.unheard }

abbrev pub heard_owner : ℕ → Table → Table
heard_owner c t = record t { entries = map (entry_after_data c) t.entries }

-- another data slot of this owner: the count rises, and at 16 the entry goes
abbrev pub missed : ℕ → TableEntry → Option TableEntry
missed c e = if has_code c e then (if nat_lt (e.unheard + 1) 16 then Some (record e { unheard = e.unheard + 1 }) else None) else Some e

abbrev pub unheard_owner : ℕ → Table → Table
unheard_owner c t = record t { entries = filter_map (missed c) t.entries }

-- the entry of this owner has been missed 15 times in a row
abbrev pub goes : ℕ → Table → Bool
goes c t = option_map_or (λ e. nat_lt 14 e.unheard) (entry_of t.entries c) false
