-- From the list of what is owed to the table's own rule.
use Rattle.std.proofs.Common.{◌≡◌, ℕ, zero, suc, ◌+◌, ◌-◌, ◌*◌, ◌^◌, ◌<◌, ◌≤◌, List, [], ◌∷◌, ◌++◌, Bool, nat_lt, nat_le}
use Rattle.std.proofs.Common.{is_some, get_or, take, map, filter, replicate, Option, Some, ⊎_elim, refl, sym, ◌∙◌, ap, subst, arith}
use Rattle.std.specs.List.{sum_by, All, slice_get}
use Rattle.std.specs.Option.{IfSome}
use Rattle.std.proofs.Math.Nat.{mul-le-mul, div-le_self}
use Rattle.std.proofs.lemmas.Bool.{ltb-true}
use Rattle.lwb_base.specs.Profile.{Numbers, IsProfile}
use Rattle.lwb_base.proofs.Lists.{filter_map_of}
use Rattle.std.proofs.lemmas.List.{get_or-map, length-map, map-append}
use Rattle.std.proofs.lemmas.List.Elements.{All-nil, All-append, All-replicate, All-head, All-tail, All-map, All-filter, All-take, filter_passes}
use Rattle.std.proofs.lemmas.List.Sums.{sum_by-cons}
use Rattle.std.proofs.lemmas.Option.{slice_get-get_or}
use Rattle.bus_rules.specs.Tables.{TableEntry, Table, EntriesAscend, code_in}
use Rattle.bus_rules.specs.Granting.{owed_to, in_turn, turn, turns, given, owners_by}
use Rattle.stream_table.proofs.Order.{entry_at}
use Rattle.host_scheduler.specs.declared.debts.Debt.{Debt}
use Rattle.host_scheduler.specs.Debts.{debt_of, debts_of, code_of_debt, owed_in, codes_owed, all_owed, debts_from_place, beyond, owed_beyond, turns_of, IsCode}
use Rattle.host_scheduler.specs.Debts.{IsGrantable}

codes_of_debts : (owes : TableEntry → ℕ) (es : List TableEntry) → map code_of_debt (debts_of owes es) ≡ map code_in es
codes_of_debts owes [] = refl
codes_of_debts owes (e ∷ es) = ap (λ (l : List ℕ). e.code ∷ l) (codes_of_debts owes es)

pub all_is : (owes : TableEntry → ℕ) (es : List TableEntry) → all_owed (debts_of owes es) ≡ owners_by owes es
all_is owes [] = refl
all_is owes (e ∷ es) = ap (λ (l : List ℕ). replicate (owes e) e.code ++ l) (all_is owes es)

pub sum_is : (owes : TableEntry → ℕ) (es : List TableEntry) → sum_by owed_in (debts_of owes es) ≡ sum_by owes es
sum_is owes [] = refl
sum_is owes (e ∷ es) = sum_by-cons owed_in (debt_of owes e) (debts_of owes es) ∙ ap (λ (n : ℕ). owes e + n) (sum_is owes es) ∙ sym (sum_by-cons owes e es)

line_of : (owes : TableEntry → ℕ) (place : ℕ) (es : List TableEntry) → debts_from_place place (debts_of owes es) ≡ debts_of owes (in_turn place es)
line_of owes place es =
    let first : Debt → Bool = λ d. nat_le place d.code in
    let second : Debt → Bool = λ d. nat_lt d.code place in
    ap (λ (l : List Debt). l ++ filter second (debts_of owes es)) (filter_map_of (debt_of owes) first es)
    ∙ ap (λ (l : List Debt). debts_of owes (filter (λ e. nat_le place e.code) es) ++ l) (filter_map_of (debt_of owes) second es)
    ∙ sym (map-append (debt_of owes) (filter (λ e. nat_le place e.code) es) (filter (λ e. nat_lt e.code place) es))

turn_of : (owes : TableEntry → ℕ) (line : List TableEntry) (k : ℕ) → map code_of_debt (beyond k (debts_of owes line)) ≡ turn owes line k
turn_of owes line k = ap (map code_of_debt) (filter_map_of (debt_of owes) (owed_beyond k) line) ∙ codes_of_debts owes (filter (λ e. nat_lt k (owes e)) line)

turns_are : (owes : TableEntry → ℕ) (line : List TableEntry) (k : ℕ) → turns_of (debts_of owes line) k ≡ turns owes line k
unfolding turns_of turns
turns_are owes line zero = refl
turns_are owes line (suc k) =
    ap (λ (l : List ℕ). l ++ map code_of_debt (beyond k (debts_of owes line))) (turns_are owes line k)
    ∙ ap (λ (l : List ℕ). turns owes line k ++ l) (turn_of owes line k)

pub given_is : (owes : TableEntry → ℕ) (t : Table) → take 40 (turns_of (debts_from_place t.place (debts_of owes t.entries)) 40) ≡ given owes t
given_is owes t = ap (λ (l : List Debt). take 40 (turns_of l 40)) (line_of owes t.place t.entries)
    ∙ ap (take 40) (turns_are owes (in_turn t.place t.entries) 40)

-- what is owed something can be granted
module _ (P : ℕ → Type 0) where
  abbrev pub Owed : Debt → Type 0
  Owed d = 0 < d.owed → P d.code

  each_owed : (d : Debt) → Owed d → All P (codes_owed d)
  each_owed d owed = of_times d.owed refl
    where
      of_times : (n : ℕ) → d.owed ≡ n → All P (replicate n d.code)
      of_times zero is = All-nil P
      of_times (suc n) is = All-replicate P (suc n) d.code (owed (omega (arith, is)))

  pub all_good : (ds : List Debt) → All Owed ds → All P (all_owed ds)
  all_good [] all = All-nil P
  all_good (d ∷ ds) all = All-append P (codes_owed d) (all_owed ds) (each_owed d (All-head Owed d ds all)) (all_good ds (All-tail Owed d ds all))

  turn_good : (k : ℕ) (line : List Debt) → All Owed line → All P (map code_of_debt (beyond k line))
  turn_good k line all =
      let owed = All-filter (owed_beyond k) Owed line all in
      let passed = filter_passes (owed_beyond k) line in
      All-map P code_of_debt (beyond k line) (λ i d within. owed i d within (omega (arith, ltb-true k (get_or (beyond k line) i d).owed (passed i d within))))

  turns_good : (line : List Debt) (k : ℕ) → All Owed line → All P (turns_of line k)
  unfolding turns_of
  turns_good line zero all = All-nil P
  turns_good line (suc k) all = All-append P (turns_of line k) (map code_of_debt (beyond k line)) (turns_good line k all) (turn_good k line all)

  pub given_good : (place : ℕ) (ds : List Debt) → All Owed ds → All P (take 40 (turns_of (debts_from_place place ds) 40))
  given_good place ds all =
      let first : Debt → Bool = λ d. nat_le place d.code in
      let second : Debt → Bool = λ d. nat_lt d.code place in
      All-take P 40 (turns_of (debts_from_place place ds) 40) (turns_good (debts_from_place place ds) 40
      (All-append Owed (filter first ds) (filter second ds) (All-filter first Owed ds all) (All-filter second Owed ds all)))

-- the owners of a table that are owed something can be granted it
owed_few : (seconds frame : ℕ) (e : TableEntry) → seconds ≤ 5 → frame ≤ 16777219 → 0 < owed_to seconds frame e → e.granted < 2 ^ 31
owed_few seconds frame e fast soon some =
    let n : ℕ = seconds * (frame - e.accepted) in
    let late : frame - e.accepted ≤ 16777219 = omega arith in
    let less : seconds * (frame - e.accepted) ≤ 5 * 16777219 = mul-le-mul {n₁ = seconds} {m₁ = frame - e.accepted} {n₂ = 5} {m₂ = 16777219} fast late in
    let part = div-le_self n e.interval in
    omega arith

pub seconds_few : (p : Numbers) → IsProfile p → p.seconds ≤ 5
seconds_few p made = ⊎_elim (λ is. omega (arith, ap (λ (q : Numbers). q.seconds) is)) (λ is. omega (arith, ap (λ (q : Numbers). q.seconds) is.0)) made

pub grantable : (seconds frame : ℕ) (es : List TableEntry) → EntriesAscend es → seconds ≤ 5 → frame ≤ 16777219
    → All (λ d. IsCode d.code) (debts_of (owed_to seconds frame) es) → All (Owed (IsGrantable es)) (debts_of (owed_to seconds frame) es)
grantable seconds frame es up fast soon codes =
    All-map (Owed (IsGrantable es)) (debt_of (owed_to seconds frame)) es (λ k d within some.
    let e = get_or es k d in
    let at : slice_get es k ≡ Some e = slice_get-get_or es k d within in
    let found = entry_at e.code es k e up at refl in
    let g = debt_of (owed_to seconds frame) in
    let code : IsCode e.code = subst (λ (x : Debt). IsCode x.code) (get_or-map g es k d (g e) within)
    (codes k (g e) (omega (arith, length-map es g, within))) in
    record {
      code = code;
      there = ap is_some found;
      few = subst (λ (o : Option TableEntry). IfSome o (λ x. x.granted < 2 ^ 31)) (sym found) (owed_few seconds frame e fast soon some);
    })
