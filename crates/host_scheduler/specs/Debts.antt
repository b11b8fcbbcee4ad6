-- What is owed to the streams of a table, as a list, and codes that may be granted a slot.
use Rattle.std.specs.Prelude.{ℕ, zero, suc, ◌+◌, ◌<◌, ◌≤◌, ◌^◌, List, [], ◌++◌, Bool, ◌&&◌, nat_lt, nat_le, map}
use Rattle.std.specs.Prelude.{filter, flat_map, replicate, sum_by, if◌then◌else◌, IsSome, IfSome}
use Rattle.lwb_base.specs.declared.limits.TheConstants.{DATA_SLOTS}
use Rattle.host_scheduler.specs.declared.debts.Debt.{Debt}
use Rattle.bus_rules.specs.Tables.{TableEntry, Table, entry_of}
use Rattle.bus_rules.specs.Granting.{grant, share_in, owners_by, given, last_code}

abbrev pub debt_of : (TableEntry → ℕ) → TableEntry → Debt
debt_of owes e = record { code = e.code; owed = owes e }

abbrev pub debts_of : (TableEntry → ℕ) → List TableEntry → List Debt
debts_of owes es = map (debt_of owes) es

abbrev pub code_of_debt : Debt → ℕ
code_of_debt d = d.code

abbrev pub owed_in : Debt → ℕ
owed_in d = d.owed

abbrev pub IsCode : ℕ → Type 0
IsCode c = (4 ≤ c) × (c ≤ 803)

-- each code as often as it is owed
abbrev pub codes_owed : Debt → List ℕ
codes_owed d = replicate d.owed d.code

abbrev pub all_owed : List Debt → List ℕ
all_owed ds = flat_map codes_owed ds

-- from the place on, and then those before it
abbrev pub debts_from_place : ℕ → List Debt → List Debt
debts_from_place place ds = filter (λ d. nat_le place d.code) ds ++ filter (λ d. nat_lt d.code place) ds

-- owed something, from the place on or before it
abbrev pub is_owed_from : ℕ → Debt → Bool
is_owed_from place d = nat_le place d.code && nat_lt 0 d.owed

abbrev pub early : ℕ → Debt → Bool
early place d = nat_lt d.code place && nat_lt 0 d.owed

-- more than k slots are owed
abbrev pub owed_beyond : ℕ → Debt → Bool
owed_beyond k d = nat_lt k d.owed

abbrev pub beyond : ℕ → List Debt → List Debt
beyond k ds = filter (owed_beyond k) ds

-- the slots of k turns
unfoldable pub turns_of : List Debt → ℕ → List ℕ
turns_of line zero = []
turns_of line (suc k) = turns_of line k ++ map code_of_debt (beyond k line)

-- a code of the table that can be counted forty times more
pub record IsGrantable (es : List TableEntry) (c : ℕ) : Type 0 where
  pub code : IsCode c
  pub there : IsSome (entry_of es c)
  pub few : IfSome (entry_of es c) (λ e. e.granted < 2 ^ 31)

-- the slots that are given for a round, in some order
abbrev pub slots_given : (TableEntry → ℕ) → Table → List ℕ
slots_given owes t = if nat_le (sum_by owes t.entries) DATA_SLOTS then owners_by owes t.entries else given owes t

abbrev pub place_after : (TableEntry → ℕ) → Table → ℕ
place_after owes t = if nat_le (sum_by owes t.entries) DATA_SLOTS then t.place else last_code (given owes t) + 1

abbrev pub granted_all : List ℕ → Table → Table
granted_all codes t = record t { entries = map (grant (share_in codes)) t.entries }
