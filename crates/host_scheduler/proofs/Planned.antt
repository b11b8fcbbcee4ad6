-- The plan as the rule makes it.
use Rattle.std.proofs.Common.{◌≡◌, ℕ, ◌+◌, List, Bool, true, false, nat_le, if◌then◌else◌, map, refl, ◌∙◌, ap}
use Rattle.std.specs.List.{sum_by}
use Rattle.bus_rules.specs.Tables.{TableEntry, Table, EntriesAscend}
use Rattle.bus_rules.specs.Granting.{owed_to, gap_of, grant, share_in, owners_by, given, last_code, granted_by, plan_round}
use Rattle.host_scheduler.specs.Debts.{slots_given, place_after}
use Rattle.host_scheduler.proofs.Shares.{all_owned, all_granted}

gap_by : (b : Bool) (owes : TableEntry → ℕ) (gap : ℕ) (t : Table)
    → gap ≡ (if b then granted_by owes gap t.place t.entries else granted_by (share_in (given owes t)) gap (last_code (given owes t) + 1) t.entries).gap
gap_by true owes gap t = refl
gap_by false owes gap t = refl

owners_given : (b : Bool) (owes : TableEntry → ℕ) (gap : ℕ) (t : Table) (slots : List ℕ) → EntriesAscend t.entries
    → slots ≡ (if b then owners_by owes t.entries else given owes t)
    → owners_by (share_in slots) t.entries ≡ (if b then granted_by owes gap t.place t.entries
    else granted_by (share_in (given owes t)) gap (last_code (given owes t) + 1) t.entries).owners
owners_given true owes gap t slots up is = ap (λ (l : List ℕ). owners_by (share_in l) t.entries) is ∙ all_owned owes t.entries up
owners_given false owes gap t slots up is = ap (λ (l : List ℕ). owners_by (share_in l) t.entries) is

table_given : (b : Bool) (owes : TableEntry → ℕ) (gap place : ℕ) (t : Table) (slots : List ℕ) → EntriesAscend t.entries
    → slots ≡ (if b then owners_by owes t.entries else given owes t) → place ≡ (if b then t.place else last_code (given owes t) + 1)
    → record { entries = map (grant (share_in slots)) t.entries; place = place } ≡ (if b then granted_by owes gap t.place t.entries
    else granted_by (share_in (given owes t)) gap (last_code (given owes t) + 1) t.entries).table
table_given true owes gap place t slots up is moved =
    ap (λ (l : List ℕ). record { entries = map (grant (share_in l)) t.entries; place = place }) is
    ∙ ap (λ (es : List TableEntry). record { entries = es; place = place }) (all_granted owes t.entries up)
    ∙ ap (λ (p : ℕ). record { entries = map (grant owes) t.entries; place = p }) moved
table_given false owes gap place t slots up is moved =
    ap (λ (l : List ℕ). record { entries = map (grant (share_in l)) t.entries; place = place }) is
    ∙ ap (λ (p : ℕ). record { entries = map (grant (share_in (given owes t))) t.entries; place = p }) moved

module _ (seconds frame : ℕ) (t : Table) where
  abbrev gap : ℕ
  gap = gap_of seconds frame t.entries

  abbrev owes : TableEntry → ℕ
  owes = owed_to seconds (frame + gap)

  pub planned_gap : gap ≡ (plan_round seconds frame t).gap
  unfolding plan_round
  planned_gap = gap_by (nat_le (sum_by owes t.entries) 40) owes gap t

  pub planned_owners : (slots : List ℕ) → EntriesAscend t.entries → slots ≡ slots_given owes t
      → owners_by (share_in slots) t.entries ≡ (plan_round seconds frame t).owners
  unfolding plan_round
  planned_owners slots up is = owners_given (nat_le (sum_by owes t.entries) 40) owes gap t slots up is

  pub planned_table : (slots : List ℕ) → EntriesAscend t.entries → slots ≡ slots_given owes t
      → record { entries = map (grant (share_in slots)) t.entries; place = place_after owes t } ≡ (plan_round seconds frame t).table
  unfolding plan_round
  planned_table slots up is = table_given (nat_le (sum_by owes t.entries) 40) owes gap (place_after owes t) t slots up is refl
