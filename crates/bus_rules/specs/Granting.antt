-- What is owed to the streams of a table, and what a host grants of it for one round.
use Rattle.std.specs.Prelude.{ℕ, zero, suc, ◌+◌, ◌-◌, ◌*◌, ◌/◌, List, [], ◌++◌, ◌==◌, nat_lt, nat_le, if◌then◌else◌, map}
use Rattle.std.specs.Prelude.{length, take, filter, flat_map, replicate, sum_by, count_by, slice_index}
use Rattle.lwb_base.specs.declared.limits.TheConstants.{DATA_SLOTS, GREATEST_GAP}
use Rattle.bus_rules.specs.Tables.{TableEntry, Table, code_in}

-- the slots that have come due since the stream was accepted, less those granted. - stops at 0
abbrev pub owed : ℕ → ℕ → ℕ → ℕ → ℕ → ℕ
owed seconds frame accepted interval granted = seconds * (frame - accepted) / interval - granted

abbrev pub owed_to : ℕ → ℕ → TableEntry → ℕ
owed_to seconds frame e = owed seconds frame e.accepted e.interval e.granted

abbrev pub total : ℕ → ℕ → List TableEntry → ℕ
total seconds frame es = sum_by (owed_to seconds frame) es

-- the greatest gap at which all that is owed fits one round, else 1
abbrev pub gap_of : ℕ → ℕ → List TableEntry → ℕ
gap_of seconds frame es =
    if nat_le (total seconds (frame + GREATEST_GAP) es) DATA_SLOTS then GREATEST_GAP
    else if nat_le (total seconds (frame + 3) es) DATA_SLOTS then 3
    else if nat_le (total seconds (frame + 2) es) DATA_SLOTS then 2
    else 1

-- how often a code is in a list
abbrev pub count_of : ℕ → List ℕ → ℕ
count_of c cs = count_by (λ x. x == c) cs

-- the entries in the order of the turns: from the place on, and then those before it
abbrev pub in_turn : ℕ → List TableEntry → List TableEntry
in_turn place es = filter (λ e. nat_le place e.code) es ++ filter (λ e. nat_lt e.code place) es

-- turn k, counted from 0: a slot for each that was owed more than the k slots that the turns before gave it
abbrev pub turn : (TableEntry → ℕ) → List TableEntry → ℕ → List ℕ
turn owes line k = map code_in (filter (λ e. nat_lt k (owes e)) line)

-- the slots of the first k turns, one after another
unfoldable pub turns : (TableEntry → ℕ) → List TableEntry → ℕ → List ℕ
turns owes line zero = []
turns owes line (suc k) = turns owes line k ++ turn owes line k

-- the data slots of a round that are given one at a time, in turns
abbrev pub given : (TableEntry → ℕ) → Table → List ℕ
given owes t = take DATA_SLOTS (turns owes (in_turn t.place t.entries) DATA_SLOTS)

abbrev pub last_code : List ℕ → ℕ
last_code cs = slice_index cs (length cs - 1)

-- what is granted for a round, with the table after
pub record Grants : Type 0 where
  pub gap : ℕ
  pub owners : List ℕ
  pub table : Table

abbrev pub grant : (TableEntry → ℕ) → TableEntry → TableEntry
grant share e = record e { granted = e.granted + share e }

-- each code as often as it was granted, ascending
abbrev pub owners_by : (TableEntry → ℕ) → List TableEntry → List ℕ
owners_by share es = flat_map (λ e. replicate (share e) e.code) es

abbrev pub granted_by : (TableEntry → ℕ) → ℕ → ℕ → List TableEntry → Grants
granted_by share gap place es = record {
  gap = gap;
  owners = owners_by share es;
  table = record { entries = map (grant share) es; place = place };
}

-- how often the code of an entry was given
abbrev pub share_in : List ℕ → TableEntry → ℕ
share_in cs e = count_of e.code cs

-- all that is owed where it fits, else all data slots in turns
abbrev pub grants_for : (TableEntry → ℕ) → ℕ → Table → Grants
grants_for owes gap t =
    if nat_le (sum_by owes t.entries) DATA_SLOTS
    then granted_by owes gap t.place t.entries
    else granted_by (share_in (given owes t)) gap (last_code (given owes t) + 1) t.entries

-- parts three to five of the plan that a host makes in this frame
unfoldable pub plan_round : ℕ → ℕ → Table → Grants
plan_round seconds frame t = let gap = gap_of seconds frame t.entries in grants_for (owed_to seconds (frame + gap)) gap t
