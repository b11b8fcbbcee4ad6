use Rattle.std.proofs.Common.{◌≡◌, ◌++◌, ◌∷◌, [], List, refl, subst, rules}
use Rattle.air_check.specs.Tunings.{IsUntilAfter}
use Rattle.air_check.specs.declared.tunings.Tuned.{Tuned}
use Rattle.air_check.proofs.Extended.{extended_more, all_extended}
use Rattle.air_check.proofs.tuned_index.extended.Goals as goal

pub loop-e-preserved : goal.loop-e-preserved
loop-e-preserved c =
    let r = c.e-item.result in
    let u = c.until_after-until.result in
    let e : Tuned = record { node = r.node; rank = r.rank; start = r.start; until = u } in
    let pushed : c.push.new.self.items ≡ c.loop-e.tuned.items ++ e ∷ [] = search rules in
    extended_more c.args.tunings.now c.loop-e.tuned.items c.push.new.self.items c.loop-e.e-index r e c.requires c.loop-e-test.true c.e-item.is refl refl refl
    (subst (λ (es : List Tuned). IsUntilAfter es r u) c.deref.ensures.value c.until_after-until.ensures) c.loop-e.invariant pushed

pub returns : goal.returns
returns c = all_extended c.args.tunings.now c.loop-e.tuned.items c.loop-e.e-index c.loop-e-test.false c.loop-e.invariant
