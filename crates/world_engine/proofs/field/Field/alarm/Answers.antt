use Rattle.std.proofs.lemmas.Result.{on_ok_weaker}
use Rattle.air_log.specs.Tunings.{tunings_with}
use Rattle.world_engine.specs.FieldParts.{state_of}
use Rattle.world_engine.proofs.FollowedDevices.{after_there, mid_within, alarms_followed}
use Rattle.world_engine.proofs.StepsInCode.{IsRead, field_as_was, in_queue, state_shows}
use Rattle.world_engine.proofs.field.Field.alarm.Given.{Over}
use Rattle.world_engine.proofs.field.Field.alarm.Goals as goal
use Rattle.world_engine.proofs.field.Field.alarm.Goals.{After-settings-before}

read : (g : Over) (c : After-settings-before g) → IsRead c.args.t c.args.place (state_of c.self.inside) c.args.self.now (g.Q.Orders.map c.args.orders.now)
    c.from.result c.index_mut-device.result.now
read g c = record {
  same = c.self.view_is;
  shown = c.requires.shown;
  at = c.from.ensures;
  is = c.index_mut-device.ensures.value;
  field = c.self.invariant;
}

pub take_alarms-requires-clause-ends : goal.take_alarms-requires-clause-ends
take_alarms-requires-clause-ends g c =
    let shown = c.requires.shown in
    record {
      setup = shown.setup;
      tunings = tunings_with shown.setup.id shown.shows.station.tuning shown.shows.made.tuned;
      made = shown.shows.made;
      device = shown.device;
      shows = state_shows (read g (goal.at.take_alarms-requires-clause-ends g c).After-settings-before) shown.setup shown.device shown.shows;
      ends = c.requires.ends shown.setup shown.device shown.shows;
    }

pub invariant_of-self : goal.invariant_of-self
invariant_of-self g c =
    field_as_was (read g (goal.at.invariant_of-self g c).After-settings-before) c.take_alarms.new.self c.take_alarms.ensures.setup
    c.take_alarms.new.deliveries.items

pub invariant_of-self-2 : goal.invariant_of-self-2
invariant_of-self-2 g c =
    field_as_was (read g (goal.at.invariant_of-self-2 g c).After-settings-before) c.take_alarms.new.self c.take_alarms.ensures.setup
    c.take_alarms.new.deliveries.items

pub follow-requires-clause-within : goal.follow-requires-clause-within
follow-requires-clause-within g c = mid_within (read g (goal.at.follow-requires-clause-within g c).After-settings-before) c.take_alarms.new.self

pub follow-requires-clause-queue : goal.follow-requires-clause-queue
follow-requires-clause-queue g c = in_queue (read g (goal.at.follow-requires-clause-queue g c).After-settings-before)

pub returns : goal.returns
returns g c =
    let at = read g (goal.at.returns g c).After-settings-before in
    on_ok_weaker c.follow.result (λ follows. alarms_followed at c.settings-before.ensures follows c.in_ok-take_alarms.ensures.goes c.requires.ends)
    (c.follow.ensures c.take_alarms.new.self (after_there at c.take_alarms.new.self))
