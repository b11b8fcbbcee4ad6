use Rattle.std.proofs.Common.{◌≡◌, ◌∙◌, ◌++◌, ◌∷◌, [], ℕ, length, ap, arith}
use Rattle.std.proofs.lemmas.List.Elements.{All-push, All-same}
use Rattle.host_scheduler.specs.declared.debts.Debt.{Debt}
use Rattle.stream_table.specs.Entries.{owed_by}
use Rattle.host_scheduler.specs.Debts.{IsCode}
use Rattle.host_scheduler.proofs.Owing.{debt_more}
use Rattle.host_scheduler.proofs.debts.debts.Goals as goal

pub loop-i-preserved : goal.loop-i-preserved
loop-i-preserved c =
    let old = c.loop-i.debts.items in
    let debt : Debt = record { code = c.code.result; owed = c.owed-owed.result } in
    let same : debt ≡ record { code = c.in-Some.owner; owed = owed_by c.args.seconds c.args.frame c.args.table.now c.in-Some.owner } =
    ap (λ (n : ℕ). record { code = n; owed = c.owed-owed.result }) c.code.ensures.value
    ∙ ap (λ (n : ℕ). record { code = c.in-Some.owner; owed = n }) c.owed-owed.ensures in
    let coded : IsCode c.code.result = (omega (arith, c.code.ensures.value, c.code.ensures.range), omega (arith, c.code.ensures.value, c.code.ensures.range)) in
    record {
      value = c.push.ensures.items ∙ ap (λ (d : Debt). old ++ d ∷ []) same ∙ debt_more c.args.seconds c.args.frame c.args.table.now
          c.loop-i.i c.in-Some.owner old c.requires.kept.ascends c.in-Some.ensures c.loop-i.invariant.value;
      codes = All-same (λ d. IsCode d.code) _ _ c.push.ensures.items (All-push (λ d. IsCode d.code) old debt c.loop-i.invariant.codes coded);
      few = omega (arith, ap length c.push.ensures.items, c.push.ensures.len, c.loop-i.invariant.few);
    }
