use Rattle.std.proofs.Common.{arith}
use Rattle.world_engine.proofs.LineSteps.{IsGiven, has_device, early, in_clocks, shown, to_node, in_range, boots, line_done, read_at}
use Rattle.world_engine.proofs.field.Field.line.Given.{Over}
use Rattle.world_engine.proofs.field.Field.line.Goals as goal
use Rattle.world_engine.proofs.field.Field.line.Goals.{Start}

given : (g : Over) (c : Start g)
    → IsGiven g.C.DriftClock.readings c.args.s.now c.args.clocks.now c.args.t c.args.line.now c.requires.next.0 c.args.self.now
    (g.Q.Orders.map c.args.orders.now)
given g c = record { sound = c.requires.sound; count = c.requires.clocks; next = c.requires.next.1; run = c.requires.next.2 }

pub place_of-place-requires : goal.place_of-place-requires
place_of-place-requires g c = has_device (given g (goal.at.place_of-place-requires g c).Start)

pub offset_bounds-clocks-from : goal.offset_bounds-clocks-from
offset_bounds-clocks-from g c =
    let below = in_clocks (given g (goal.at.offset_bounds-clocks-from g c).Start) c.place_of-place.result c.place_of-place.ensures in
    omega (arith, below, c.from.ensures)

pub bounds-clocks-from : goal.bounds-clocks-from
bounds-clocks-from g c =
    let below = in_clocks (given g (goal.at.bounds-clocks-from g c).Start) c.place_of-place.result c.place_of-place.ensures in
    omega (arith, below, c.from.ensures)

pub act-requires-clause-shown : goal.act-requires-clause-shown
act-requires-clause-shown g c =
    shown (given g (goal.at.act-requires-clause-shown g c).Start) c.place_of-place.result c.place_of-place.ensures

pub act-requires-clause-early : goal.act-requires-clause-early
act-requires-clause-early g c = early (given g (goal.at.act-requires-clause-early g c).Start)

pub act-requires-clause-node : goal.act-requires-clause-node
act-requires-clause-node g c =
    to_node (given g (goal.at.act-requires-clause-node g c).Start) c.place_of-place.result c.place_of-place.ensures

pub act-requires-clause-range : goal.act-requires-clause-range
act-requires-clause-range g c =
    in_range (given g (goal.at.act-requires-clause-range g c).Start) c.place_of-place.result c.place_of-place.ensures

pub act-requires-clause-boots : goal.act-requires-clause-boots
act-requires-clause-boots g c =
    boots (given g (goal.at.act-requires-clause-boots g c).Start) c.place_of-place.result c.place_of-place.ensures

pub returns : goal.returns
returns g c = λ told next run.
    let place = c.place_of-place.result in
    let below = in_clocks (given g (goal.at.returns g c).Start) place c.place_of-place.ensures in
    let clock = read_at c.args.clocks.now c.from.result place c.index-clocks-from.result c.from.ensures below c.index-clocks-from.is in
    let at : IsGiven g.C.DriftClock.readings c.args.s.now c.args.clocks.now c.args.t c.args.line.now told c.args.self.now (g.Q.Orders.map c.args.orders.now) =
    record { sound = c.requires.sound; count = c.requires.clocks; next = next; run = run } in
    line_done at place c.place_of-place.ensures clock c.in_ok-act.ensures
