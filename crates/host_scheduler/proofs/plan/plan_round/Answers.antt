use Rattle.std.proofs.Common.{◌≡◌, ◌+◌, ◌∙◌, ℕ, List, IsSome, sym, ap, subst, arith}
use Rattle.std.specs.List.{All}
use Rattle.std.proofs.lemmas.List.Elements.{All-same, All-weaker}
use Rattle.std.proofs.lemmas.List.Sorted.{All-permutation}
use Rattle.bus_rules.specs.Tables.{TableEntry, Table, entry_of}
use Rattle.bus_rules.specs.Granting.{owed_to, gap_of, plan_round}
use Rattle.host_scheduler.specs.Debts.{IsGrantable, slots_given, place_after, granted_all}
use Rattle.host_scheduler.proofs.Bridge.{seconds_few}
use Rattle.host_scheduler.proofs.Shares.{sorted_is, same_shares}
use Rattle.host_scheduler.proofs.Planned.{planned_gap, planned_owners, planned_table}
use Rattle.host_scheduler.proofs.plan.plan_round.Goals as goal

pub gap-gap-requires-clause-seconds : goal.gap-gap-requires-clause-seconds
gap-gap-requires-clause-seconds c = omega (arith, c.seconds-seconds.ensures.value, seconds_few c.args.profile.now c.seconds-seconds.ensures.made)

pub slots-requires-clause-seconds : goal.slots-requires-clause-seconds
slots-requires-clause-seconds c = omega (arith, c.seconds-seconds.ensures.value, seconds_few c.args.profile.now c.seconds-seconds.ensures.made)

pub grant-owners-requires-clause-grantable : goal.grant-owners-requires-clause-grantable
grant-owners-requires-clause-grantable c =
    let es = c.args.table.now.entries in
    let moved = All-permutation (IsGrantable es) _ _ c.sorted-codes.ensures.same c.slots.ensures.grantable in
    let now : c.slots.new.table.entries ≡ es = ap (λ (t : Table). t.entries) c.slots.ensures.place in
    subst (λ (l : List TableEntry). All (IsGrantable l) c.as_slice.result.now) (sym now) (All-same (IsGrantable es) _ _ c.as_slice.ensures.value moved)

pub returns-clause-gap : goal.returns-clause-gap
returns-clause-gap c =
    c.gap-gap.ensures.value ∙ planned_gap c.seconds-seconds.result c.args.frame c.args.table.now
    ∙ ap (λ (s : ℕ). (plan_round s c.args.frame c.args.table.now).gap) c.seconds-seconds.ensures.value

pub returns-clause-owners : goal.returns-clause-owners
returns-clause-owners c =
    let t = c.args.table.now in
    let es = t.entries in
    let s = c.seconds-seconds.result in
    let f = c.args.frame in
    let owes = owed_to s (f + gap_of s f es) in
    let up = c.slots.ensures.kept.ascends in
    let due : f + c.from.result ≡ f + gap_of s f es = ap (λ (g : ℕ). f + g) (c.from.ensures ∙ c.gap-gap.ensures.value) in
    let slots : c.slots.result.items ≡ slots_given owes t = c.slots.ensures.codes ∙ ap (λ (d : ℕ). slots_given (owed_to s d) t) due in
    let sorted = c.sorted-codes.result.items in
    let there = All-weaker (IsGrantable es) (λ x. IsSome (entry_of es x)) (λ x g. g.there) c.slots.result.items c.slots.ensures.grantable in
    c.grant-owners.ensures.owners ∙ c.as_slice.ensures.value
    ∙ sorted_is es c.slots.result.items sorted up there c.sorted-codes.ensures.same c.sorted-codes.ensures.ascend
    ∙ planned_owners s f t c.slots.result.items up slots ∙ ap (λ (n : ℕ). (plan_round n f t).owners) c.seconds-seconds.ensures.value

pub returns-clause-table : goal.returns-clause-table
returns-clause-table c =
    let t = c.args.table.now in
    let es = t.entries in
    let s = c.seconds-seconds.result in
    let f = c.args.frame in
    let owes = owed_to s (f + gap_of s f es) in
    let up = c.slots.ensures.kept.ascends in
    let due : f + c.from.result ≡ f + gap_of s f es = ap (λ (g : ℕ). f + g) (c.from.ensures ∙ c.gap-gap.ensures.value) in
    let slots : c.slots.result.items ≡ slots_given owes t = c.slots.ensures.codes ∙ ap (λ (d : ℕ). slots_given (owed_to s d) t) due in
    let sorted = c.sorted-codes.result.items in
    let there = All-weaker (IsGrantable es) (λ x. IsSome (entry_of es x)) (λ x g. g.there) c.slots.result.items c.slots.ensures.grantable in
    let place : c.slots.new.table ≡ record t { place = place_after owes t } = c.slots.ensures.place
    ∙ ap (λ (d : ℕ). record t { place = place_after (owed_to s d) t }) due in
    c.grant-owners.ensures.table ∙ ap (λ (l : List ℕ). granted_all l c.slots.new.table) c.as_slice.ensures.value ∙ ap (granted_all sorted) place
    ∙ ap (λ (l : List TableEntry). record { entries = l; place = place_after owes t }) (same_shares c.slots.result.items sorted es c.sorted-codes.ensures.same)
    ∙ planned_table s f t c.slots.result.items up slots ∙ ap (λ (n : ℕ). (plan_round n f t).table) c.seconds-seconds.ensures.value
