use Rattle.std.proofs.Common.{◌≡◌, ◌+◌, ◌∷◌, [], ◌++◌, List, take, sym, ◌∙◌, ap, subst, arith}
use Rattle.std.proofs.lemmas.List.{take_more}
use Rattle.air_log.specs.declared.entry.Entry.{Entry}
use Rattle.bus_time.specs.Reading.{IsRead}
use Rattle.bus_time.proofs.reading.Reading.of.Goals as goal

pub loop-i-preserved : goal.loop-i-preserved
loop-i-preserved c =
    let air = c.args.air.now in
    let i = c.loop-i.i in
    let e = c.entry_at-entry.result.now in
    let new = c.add.new.self in
    let more : take i air ++ e ∷ [] ≡ take (i + 1) air =
    sym (take_more air i e (omega (arith, c.loop-i-test.true, c.len-i-end.ensures))
    ∙ ap (λ (x : Entry). take i air ++ x ∷ []) (sym c.entry_at-entry.ensures)) in
    subst (λ (l : List Entry). IsRead c.args.profile.now l new.present new.ahead new.beginnings.items) more
    (c.in_ok-add.ensures (take i air) c.loop-i.invariant)
