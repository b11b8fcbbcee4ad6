use Rattle.std.proofs.Common.{map, ◌∙◌, ap}
use Rattle.radio_model.specs.Stations.{sending_of_station, station_of}
use Rattle.lwb_flood.specs.FloodWorlds.{World}
use Rattle.lwb_flood.proofs.EndOfSending.{HasEnded, mid, mid_nodes, mid_node, mid_time, mid_known, mid_heard, is_ended_more, is_ended_off, gone_nodes}
use Rattle.lwb_flood.proofs.EndOfSending.{ended_by, own_shape, on_ok}
use Rattle.lwb_flood.proofs.FloodSteps.{seen}
use Rattle.lwb_flood.proofs.flood_world.FloodWorld.end.Given.{Over}
use Rattle.lwb_flood.proofs.flood_world.FloodWorld.end.Goals as goal
use Rattle.lwb_flood.proofs.flood_world.FloodWorld.end.Goals.{After-end_own}

has_ended : (g : Over) (c : After-end_own g) → HasEnded (seen c.self.inside) c.args.self.now c.args.x c.args.trace.now.lines c.end-hearers.result
    c.end-hearers.new.self c.end_own.new.members.items
has_ended g c = record {
  view = c.self.view_is;
  state = c.end-hearers.ensures.state;
  changed = c.end_own.ensures.members;
  sender = c.end-hearers.ensures.sender;
  ascend = c.end-hearers.ensures.ascending;
  clause = λ a h same. c.end-hearers.ensures.hearers a c.args.x h same
      (ap (λ (w : World). sending_of_station (station_of w.medium c.args.x.node)) c.self.view_is ∙ c.requires.sends);
}

pub invariant_of-self : goal.invariant_of-self
invariant_of-self g c = own_shape _ c.self.invariant c.args.x _ _ c.self.inside.air c.end-hearers.ensures.state c.end_own.ensures.members

pub hear_all-requires-clause-nodes : goal.hear_all-requires-clause-nodes
hear_all-requires-clause-nodes g c =
    let e = has_ended g (goal.at.hear_all-requires-clause-nodes g c).After-end_own in
    mid_known e c.requires.held _ (mid_nodes e)

pub invariant_of-self-in-Off : goal.invariant_of-self-in-Off
invariant_of-self-in-Off g c = own_shape _ c.self.invariant c.args.x _ _ c.self.inside.air c.end-hearers.ensures.state c.end_own.ensures.members

pub leave-requires-clause-node : goal.leave-requires-clause-node
leave-requires-clause-node g c = mid_node (has_ended g (goal.at.leave-requires-clause-node g c).After-end_own) c.requires.node

pub leave-requires-clause-time : goal.leave-requires-clause-time
leave-requires-clause-time g c = mid_time (has_ended g (goal.at.leave-requires-clause-time g c).After-end_own) c.requires.time

pub hear_all-requires-in-Off-clause-nodes : goal.hear_all-requires-in-Off-clause-nodes
hear_all-requires-in-Off-clause-nodes g c =
    let e = has_ended g (goal.at.hear_all-requires-in-Off-clause-nodes g c).After-end_own in
    mid_known e c.requires.held _ (gone_nodes e c.end_own.result c.end_own.ensures.last c.leave.new.self c.in_ok-leave-in-Off.ensures)

pub returns-in-More : goal.returns-in-More
returns-in-More g c =
    let e = has_ended g (goal.at.returns-in-More g c).After-end_own in
    on_ok c.hear_all.result _ _
    (λ same. ended_by g.C.DriftClock.readings c.args.clocks.now c.args.trace.now.lines c.args.x c.args.self.now
    (mid e) c.hear_all.new.self (map (λ p. p.0) c.end-hearers.result)
    (mid_heard e) (is_ended_more e c.end_own.result c.end_own.ensures.last c.in-More.is) same) c.hear_all.ensures

pub returns-in_ok-leave-in-Off : goal.returns-in_ok-leave-in-Off
returns-in_ok-leave-in-Off g c =
    let e = has_ended g (goal.at.returns-in_ok-leave-in-Off g c).After-end_own in
    on_ok c.hear_all-in-Off.result _ _
    (λ same. ended_by g.C.DriftClock.readings c.args.clocks.now c.args.trace.now.lines c.args.x c.args.self.now c.leave.new.self c.hear_all-in-Off.new.self
    (map (λ p. p.0) c.end-hearers.result)
    (mid_heard e) (is_ended_off e c.end_own.result c.end_own.ensures.last c.in-Off.is c.leave.new.self
    c.in_ok-leave-in-Off.ensures) same) c.hear_all-in-Off.ensures
