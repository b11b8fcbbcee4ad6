use Rattle.std.proofs.Common.{◌≤◌, List, [], ◌∷◌, nat_lt, ◌==◌, not, cond, sym, subst, arith}
use Rattle.std.specs.List.{All}
use Rattle.std.proofs.lemmas.Bool.{cond_both}
use Rattle.std.proofs.lemmas.List.Elements.{All-cons, All-head, All-tail, All-filter}
use Rattle.lwb_base.specs.Messages.{Ask, code_of}
use Rattle.bus_rules.specs.Tables.{TableEntry, Table, has_code, is_full, new_entry, with_entry, without, after_request}
use Rattle.test_nodes.proofs.scheduler_tests.accept.Goals as goal

abbrev Early : TableEntry → Type 0
Early e = e.accepted ≤ 9

with_early : (e : TableEntry) (es : List TableEntry) → Early e → All Early es → All Early (with_entry e es)
with_early e [] one all = All-cons Early e [] one all
with_early e (x ∷ es) one all =
    let first = All-head Early x es all in
    let rest = All-tail Early x es all in
    cond_both (e.code == x.code) (e ∷ es) (cond (nat_lt e.code x.code) (e ∷ x ∷ es) (x ∷ with_entry e es)) (All Early) (λ is. All-cons Early e es one rest)
    (λ not. cond_both (nat_lt e.code x.code) (e ∷ x ∷ es) (x ∷ with_entry e es) (All Early) (λ less. All-cons Early e (x ∷ es) one all)
    (λ more. All-cons Early x (with_entry e es) first (with_early e es one rest)))

after_early : (t : Table) (a : Ask) → All Early t.entries → All Early (after_request 0 t a).entries
after_early t a all =
    cond_both (is_full a t) t.entries (cond (a.interval == 0) (without (code_of a) t.entries) (with_entry (new_entry a 0) t.entries)) (All Early) (λ full. all)
    (λ room. cond_both (a.interval == 0) (without (code_of a) t.entries) (with_entry (new_entry a 0) t.entries) (All Early)
    (λ ends. All-filter (λ e. not (has_code (code_of a) e)) Early t.entries all) (λ more. with_early (new_entry a 0) t.entries (omega arith) all))

pub returns : goal.returns
returns c =
    let asked : Ask = record { node = c.args.node; boot = 1; stream = 0; interval = c.args.interval } in
    subst (λ (t : Table). All Early t.entries) (sym c.request.ensures.after) (after_early c.args.table.now asked c.requires.early)
