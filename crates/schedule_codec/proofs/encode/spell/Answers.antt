use Rattle.std.proofs.Common.{ap, sym, ◌∙◌, arith}
use Rattle.lwb_base.specs.Messages.{Schedule}
use Rattle.schedule_codec.specs.AckLists.{are_acks}
use Rattle.schedule_codec.specs.OwnerLists.{are_owners}
use Rattle.schedule_codec.proofs.Readings.{writable_in_range}
use Rattle.schedule_codec.proofs.encode.spell.Goals as goal

pub returns-clause-in_range : goal.returns-clause-in_range
returns-clause-in_range c =
    let s = c.args.s.now in
    let rank = ap (λ (t : Schedule). t.plan.rank) c.s.view_is in
    writable_in_range s c.args.slot c.requires (omega arith)
    (ap (λ (t : Schedule). are_acks t.plan.acks) (sym c.s.view_is) ∙ c.write_acks-acks.ensures.acks)
    (ap (λ (t : Schedule). are_owners t.plan.owners) (sym c.s.view_is) ∙ c.write_owners-owners.ensures.owners)
