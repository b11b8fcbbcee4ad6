use Rattle.std.proofs.Common.{sym, subst, ap}
use Rattle.std.proofs.lemmas.Result.{on_ok_weaker}
use Rattle.bus_rules.specs.States.{IsAct}
use Rattle.bus_rules.specs.Cores.{Setup}
use Rattle.air_log.specs.Devices.{Device}
use Rattle.air_log.specs.DeviceStates.{CanBoot}
use Rattle.world_engine.specs.Fields.{FieldState}
use Rattle.world_engine.specs.FieldParts.{state_of}
use Rattle.world_engine.specs.FieldSteps.{TakesLine}
use Rattle.world_engine.proofs.FollowedDevices.{after_there, mid_within, line_followed}
use Rattle.world_engine.proofs.StepsInCode.{IsRead, field_as_was, in_queue, state_shown, state_shows}
use Rattle.world_engine.proofs.field.Field.act.Given.{Over}
use Rattle.world_engine.proofs.field.Field.act.Goals as goal
use Rattle.world_engine.proofs.field.Field.act.Goals.{After-settings-before}

read : (g : Over) (c : After-settings-before g) → IsRead c.args.t c.args.place (state_of c.self.inside) c.args.self.now (g.Q.Orders.map c.args.orders.now)
    c.from.result c.index_mut-device.result.now
read g c = record {
  same = c.self.view_is;
  shown = c.requires.shown;
  at = c.from.ensures;
  is = c.index_mut-device.ensures.value;
  field = c.self.invariant;
}

pub act-requires-clause-shown : goal.act-requires-clause-shown
act-requires-clause-shown g c = state_shown (read g (goal.at.act-requires-clause-shown g c).After-settings-before)

pub act-requires-clause-range : goal.act-requires-clause-range
act-requires-clause-range g c =
    let shown = c.requires.shown in
    let sh = state_shows (read g (goal.at.act-requires-clause-range g c).After-settings-before) shown.setup shown.device shown.shows in
    subst (λ (s : Setup). IsAct s.profile c.args.line.now.act) (sym sh.setup) (c.requires.range shown.setup shown.device shown.shows)

pub act-requires-clause-boots : goal.act-requires-clause-boots
act-requires-clause-boots g c = λ on.
    let shown = c.requires.shown in
    let sh = state_shows (read g (goal.at.act-requires-clause-boots g c).After-settings-before) shown.setup shown.device shown.shows in
    subst CanBoot (ap (λ (d : Device). d.power) (sym sh.is)) (c.requires.boots shown.setup shown.device shown.shows on)

pub invariant_of-self : goal.invariant_of-self
invariant_of-self g c =
    field_as_was (read g (goal.at.invariant_of-self g c).After-settings-before) c.act.new.self c.act.ensures.setup c.act.new.deliveries.items

pub invariant_of-self-2 : goal.invariant_of-self-2
invariant_of-self-2 g c =
    field_as_was (read g (goal.at.invariant_of-self-2 g c).After-settings-before) c.act.new.self c.act.ensures.setup c.act.new.deliveries.items

pub follow-requires-clause-within : goal.follow-requires-clause-within
follow-requires-clause-within g c = mid_within (read g (goal.at.follow-requires-clause-within g c).After-settings-before) c.act.new.self

pub follow-requires-clause-queue : goal.follow-requires-clause-queue
follow-requires-clause-queue g c = in_queue (read g (goal.at.follow-requires-clause-queue g c).After-settings-before)

pub returns : goal.returns
returns g c =
    let at = read g (goal.at.returns g c).After-settings-before in
    let orders = g.Q.Orders.map c.args.orders.now in
    let due = g.Q.Orders.map c.follow.new.orders in
    let clock = g.C.DriftClock.readings c.args.clock.now in
    let line = c.args.line.now in
    let follows = c.in_ok-follow.ensures c.act.new.self (after_there at c.act.new.self) in
    on_ok_weaker c.log_drop.result (λ logged.
    subst (λ (w : FieldState). TakesLine clock line c.args.t c.args.place line.act c.args.self.now orders w due) (sym logged)
    (line_followed at c.settings-before.ensures follows clock line c.in_ok-lost.lost c.in_ok-lost.ensures.goes c.in_ok-lost.ensures.lost
    c.requires.node))
    c.log_drop.ensures
