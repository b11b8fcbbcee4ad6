use Rattle.std.proofs.lemmas.Result.{on_ok_weaker}
use Rattle.world_engine.specs.FieldParts.{state_of}
use Rattle.world_engine.proofs.FollowedDevices.{after_there, mid_within, followed}
use Rattle.world_engine.proofs.StepsInCode.{IsRead, field_as_was, in_queue, state_shown}
use Rattle.world_engine.proofs.field.Field.tell.Given.{Over}
use Rattle.world_engine.proofs.field.Field.tell.Goals as goal
use Rattle.world_engine.proofs.field.Field.tell.Goals.{After-settings-before}

read : (g : Over) (c : After-settings-before g) → IsRead c.args.t c.args.place (state_of c.self.inside) c.args.self.now (g.Q.Orders.map c.args.orders.now)
    c.from.result c.index_mut-device.result.now
read g c = record {
  same = c.self.view_is;
  shown = c.requires.shown;
  at = c.from.ensures;
  is = c.index_mut-device.ensures.value;
  field = c.self.invariant;
}

pub notify-requires-clause-shown : goal.notify-requires-clause-shown
notify-requires-clause-shown g c = state_shown (read g (goal.at.notify-requires-clause-shown g c).After-settings-before)

pub invariant_of-self : goal.invariant_of-self
invariant_of-self g c =
    field_as_was (read g (goal.at.invariant_of-self g c).After-settings-before) c.notify.new.self c.notify.ensures.setup c.notify.new.deliveries.items

pub invariant_of-self-2 : goal.invariant_of-self-2
invariant_of-self-2 g c =
    field_as_was (read g (goal.at.invariant_of-self-2 g c).After-settings-before) c.notify.new.self c.notify.ensures.setup c.notify.new.deliveries.items

pub follow-requires-clause-within : goal.follow-requires-clause-within
follow-requires-clause-within g c = mid_within (read g (goal.at.follow-requires-clause-within g c).After-settings-before) c.notify.new.self

pub follow-requires-clause-queue : goal.follow-requires-clause-queue
follow-requires-clause-queue g c = in_queue (read g (goal.at.follow-requires-clause-queue g c).After-settings-before)

pub returns : goal.returns
returns g c =
    let at = read g (goal.at.returns g c).After-settings-before in
    on_ok_weaker c.follow.result (λ follows. followed at c.settings-before.ensures follows c.in_ok-notify.ensures.goes)
    (c.follow.ensures c.notify.new.self (after_there at c.notify.new.self))
