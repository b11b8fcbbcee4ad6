use Rattle.std.proofs.Common.{◌≡◌, ◌≤◌, ◌+◌, ◌∙◌, ℕ, List, true, false, nat_le, take, sym, ap, arith}
use Rattle.std.specs.List.{sum_by}
use Rattle.std.proofs.lemmas.Bool.{le-leb, lt-leb, cond-true, cond-false}
use Rattle.std.proofs.lemmas.List.Elements.{All-same, All-weaker}
use Rattle.bus_rules.specs.Granting.{owed_to, owners_by, given, last_code}
use Rattle.host_scheduler.specs.declared.debts.Debt.{Debt}
use Rattle.host_scheduler.specs.Debts.{debts_of, all_owed, debts_from_place, turns_of, IsCode, IsGrantable}
use Rattle.host_scheduler.proofs.Bridge.{all_is, given_is, all_good, given_good, grantable}
use Rattle.host_scheduler.proofs.plan.slots.Goals as goal

pub returns-then-total-le-SLOTS-clause-codes : goal.returns-then-total-le-SLOTS-clause-codes
returns-then-total-le-SLOTS-clause-codes c =
    let es = c.args.table.now.entries in
    let owes = owed_to c.args.seconds c.args.frame in
    let up = c.place-place.ensures.kept.ascends in
    let here : c.as_slice.result.now ≡ debts_of owes es = c.as_slice.ensures.value ∙ c.debts-debts.ensures.value in
    let fits : nat_le (sum_by owes es) 40 ≡ true = le-leb (sum_by owes es) 40 (omega (arith, c.total.ensures, c.if-total-le-SLOTS.true)) in
    c.all.ensures ∙ ap all_owed here ∙ all_is owes es ∙ sym (cond-true (nat_le (sum_by owes es) 40) (owners_by owes es) (given owes c.args.table.now) fits)

pub returns-then-total-le-SLOTS-clause-place : goal.returns-then-total-le-SLOTS-clause-place
returns-then-total-le-SLOTS-clause-place c =
    let es = c.args.table.now.entries in
    let owes = owed_to c.args.seconds c.args.frame in
    let up = c.place-place.ensures.kept.ascends in
    let t = c.args.table.now in
    let fits : nat_le (sum_by owes es) 40 ≡ true = le-leb (sum_by owes es) 40 (omega (arith, c.total.ensures, c.if-total-le-SLOTS.true)) in
    ap (λ (p : ℕ). record t { place = p }) (sym (cond-true (nat_le (sum_by owes es) 40) t.place (last_code (given owes t) + 1) fits))

pub returns-then-total-le-SLOTS-clause-grantable : goal.returns-then-total-le-SLOTS-clause-grantable
returns-then-total-le-SLOTS-clause-grantable c =
    let es = c.args.table.now.entries in
    let owes = owed_to c.args.seconds c.args.frame in
    let up = c.place-place.ensures.kept.ascends in
    let here : c.as_slice.result.now ≡ debts_of owes es = c.as_slice.ensures.value ∙ c.debts-debts.ensures.value in
    let codes = All-same (λ d. IsCode d.code) _ _ (sym c.debts-debts.ensures.value) c.debts-debts.ensures.codes in
    let good = grantable c.args.seconds c.args.frame es up c.requires.seconds c.requires.frame codes in
    All-same (IsGrantable es) _ _ (c.all.ensures ∙ ap all_owed here) (all_good (IsGrantable es) (debts_of owes es) good)

pub last_of-requires : goal.last_of-requires
last_of-requires c =
    let es = c.args.table.now.entries in
    let owes = owed_to c.args.seconds c.args.frame in
    let up = c.place-place.ensures.kept.ascends in
    let here : c.as_slice-2.result.now ≡ debts_of owes es = c.as_slice-2.ensures.value ∙ c.debts-debts.ensures.value in
    let codes = All-same (λ d. IsCode d.code) _ _ (sym c.debts-debts.ensures.value) c.debts-debts.ensures.codes in
    let good = grantable c.args.seconds c.args.frame es up c.requires.seconds c.requires.frame codes in
    let is : c.as_slice-3.result.now ≡ take 40 (turns_of (debts_from_place c.place-place.result (debts_of owes es)) 40) =
    c.as_slice-3.ensures.value ∙ c.give-given.ensures ∙ ap (λ (l : List Debt). take 40 (turns_of (debts_from_place c.place-place.result l) 40)) here in
    All-weaker (IsGrantable es) (λ n. n ≤ 803) (λ n g. g.code.1) _
    (All-same (IsGrantable es) _ _ is (given_good (IsGrantable es) c.place-place.result (debts_of owes es) good))

pub returns-clause-codes : goal.returns-clause-codes
returns-clause-codes c =
    let es = c.args.table.now.entries in
    let owes = owed_to c.args.seconds c.args.frame in
    let up = c.place-place.ensures.kept.ascends in
    let t = c.args.table.now in
    let here : c.as_slice-2.result.now ≡ debts_of owes es = c.as_slice-2.ensures.value ∙ c.debts-debts.ensures.value in
    let over : nat_le (sum_by owes es) 40 ≡ false = lt-leb (sum_by owes es) 40 (omega (arith, c.total.ensures, c.if-total-le-SLOTS.false)) in
    c.give-given.ensures ∙ ap (λ (l : List Debt). take 40 (turns_of (debts_from_place c.place-place.result l) 40)) here
    ∙ ap (λ (p : ℕ). take 40 (turns_of (debts_from_place p (debts_of owes es)) 40)) c.place-place.ensures.value ∙ given_is owes t
    ∙ sym (cond-false (nat_le (sum_by owes es) 40) (owners_by owes es) (given owes t) over)

pub returns-clause-place : goal.returns-clause-place
returns-clause-place c =
    let es = c.args.table.now.entries in
    let owes = owed_to c.args.seconds c.args.frame in
    let up = c.place-place.ensures.kept.ascends in
    let t = c.args.table.now in
    let here : c.as_slice-2.result.now ≡ debts_of owes es = c.as_slice-2.ensures.value ∙ c.debts-debts.ensures.value in
    let over : nat_le (sum_by owes es) 40 ≡ false = lt-leb (sum_by owes es) 40 (omega (arith, c.total.ensures, c.if-total-le-SLOTS.false)) in
    let is : c.as_slice-3.result.now ≡ given owes t =
    c.as_slice-3.ensures.value ∙ c.give-given.ensures ∙ ap (λ (l : List Debt). take 40 (turns_of (debts_from_place c.place-place.result l) 40)) here
    ∙ ap (λ (p : ℕ). take 40 (turns_of (debts_from_place p (debts_of owes es)) 40)) c.place-place.ensures.value ∙ given_is owes t in
    let last : c.last_of.result ≡ last_code (given owes t) = c.last_of.ensures.value ∙ ap last_code is in
    c.set_place.ensures ∙ ap (λ (p : ℕ). record t { place = p + 1 }) last
    ∙ ap (λ (p : ℕ). record t { place = p }) (sym (cond-false (nat_le (sum_by owes es) 40) t.place (last_code (given owes t) + 1) over))

pub returns-clause-grantable : goal.returns-clause-grantable
returns-clause-grantable c =
    let es = c.args.table.now.entries in
    let owes = owed_to c.args.seconds c.args.frame in
    let up = c.place-place.ensures.kept.ascends in
    let here : c.as_slice-2.result.now ≡ debts_of owes es = c.as_slice-2.ensures.value ∙ c.debts-debts.ensures.value in
    let codes = All-same (λ d. IsCode d.code) _ _ (sym c.debts-debts.ensures.value) c.debts-debts.ensures.codes in
    let good = grantable c.args.seconds c.args.frame es up c.requires.seconds c.requires.frame codes in
    All-same (IsGrantable es) _ _ (c.give-given.ensures ∙ ap (λ (l : List Debt). take 40 (turns_of (debts_from_place c.place-place.result l) 40))
    here) (given_good (IsGrantable es) c.place-place.result (debts_of owes es) good)
