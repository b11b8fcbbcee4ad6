use Rattle.std.proofs.Common.{◌∙◌, ap, arith}
use Rattle.lwb_flood.specs.FloodWorlds.{World}
use Rattle.lwb_flood.proofs.NextMember.{first_with, next_is}
use Rattle.lwb_flood.proofs.flood_world.FloodWorld.next.Goals as goal

pub loop-i-preserved : goal.loop-i-preserved
loop-i-preserved c =
    first_with c.deref-member-items.result.now c.loop-i.i c.member-item.result c.loop-i.next c.sooner-next.result c.loop-i-test.true c.member-item.is
    c.loop-i.invariant c.sooner-next.ensures

pub returns-in-Some-clause-some : goal.returns-in-Some-clause-some
returns-in-Some-clause-some c =
    next_is c.args.self.now.members c.deref-member-items.result.now c.loop-i.i c.loop-i.next (c.in-Some.place, c.in-Some.field-0-1, c.in-Some.field-0-2)
    (c.deref-member-items.ensures.value ∙ ap (λ (w : World). w.members) c.self.view_is)
    (let end = c.loop-i.auto.i-end in let test = c.loop-i-test.false in omega arith) c.loop-i.invariant c.in-Some.is
