use Rattle.std.proofs.Common.{◌∙◌, ap, arith, rules}
use Rattle.glossy_relay.specs.FloodState.{FloodState}
use Rattle.glossy_relay.specs.Relaying.{after_heard}
use Rattle.node_core.proofs.JoinedWindows.{joined_stands}
use Rattle.node_core.proofs.KeptRequests.{keeps_none}
use Rattle.node_core.proofs.Timed.{timed_by}
use Rattle.node_core.proofs.node.Node.join.Goals as goal

pub invariant_of-self : goal.invariant_of-self
invariant_of-self g c =
    let flood_is = c.heard-reply.ensures.state ∙ ap (λ (f : FloodState). after_heard f c.args.packet.now) c.listen-flood.ensures in
    record {
      few = search rules;
      timed = timed_by _ _ _ _ c.heard_reference-reference.ensures c.profile-profile.ensures;
      stands =
          joined_stands _ c.args.schedule.now c.args.packet.now c.slot-slot.result _ c.last_by.result c.zero.result c.part_by.result c.heard-reply.new.self
          c.part_by.ensures c.last_by.ensures flood_is (search rules) (omega (arith, c.zero.ensures.value, c.zero.ensures.range));
      accepted = search rules;
      hosted = search rules;
      kept = keeps_none _ _ _ (c.self.invariant.kept.none (search rules)) c.self.invariant.kept.named;
    }
