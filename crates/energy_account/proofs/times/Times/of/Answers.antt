use Rattle.std.proofs.Common.{◌≡◌, ◌+◌, ◌∷◌, [], ◌++◌, List, All, take, sym, ◌∙◌, ap, subst, arith}
use Rattle.std.proofs.lemmas.List.{take_more}
use Rattle.std.proofs.lemmas.List.Elements.{All-push}
use Rattle.air_log.specs.declared.entry.Entry.{Entry}
use Rattle.energy_account.specs.Times.{HasTimes, EndsEarly}
use Rattle.energy_account.proofs.SummedTimes.{none_yet}
use Rattle.energy_account.proofs.times.Times.of.Goals as goal

pub loop-i-init : goal.loop-i-init
loop-i-init c = record {
  times = none_yet c.in_ok-zeros.field-0.items c.in_ok-zeros-2.field-0.items c.in_ok-zeros.ensures c.in_ok-zeros-2.ensures;
  early = λ k d less. absurd (omega (arith, less));
}

pub loop-i-preserved : goal.loop-i-preserved
loop-i-preserved c =
    let air = c.args.air.now in
    let i = c.loop-i.i in
    let e = c.entry_at-entry.result.now in
    let more : take i air ++ e ∷ [] ≡ take (i + 1) air =
    sym (take_more air i e (omega (arith, c.loop-i-test.true, c.len-i-end.ensures))
    ∙ ap (λ (x : Entry). take i air ++ x ∷ []) (sym c.entry_at-entry.ensures)) in
    record {
      times = subst (λ (l : List Entry). HasTimes l c.add.new.self) more (c.add.ensures.times (take i air) c.loop-i.invariant.times);
      early = subst (λ (l : List Entry). All EndsEarly l) more (All-push EndsEarly (take i air) e c.loop-i.invariant.early c.add.ensures.early);
    }
