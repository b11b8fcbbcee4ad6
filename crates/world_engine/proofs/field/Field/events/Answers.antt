use Rattle.std.proofs.Common.{◌≡◌, ◌+◌, ◌*◌, suc, Some, subst, arith}
use Rattle.event_calendar.specs.Orders.{Order, IsNext}
use Rattle.air_log.specs.Trails.{frame_start}
use Rattle.air_log.specs.ClockLists.{clocks_by}
use Rattle.world_engine.specs.Frames.{told_before}
use Rattle.world_engine.proofs.ClocksAtPlaces.{all_drift}
use Rattle.world_engine.proofs.EventsInCode.{IsFrame, at_start, frame_end, tick_within, runs_to, goes_on, nearer, over_at_next, over_at_none}
use Rattle.world_engine.proofs.field.Field.events.Given.{Over}
use Rattle.world_engine.proofs.field.Field.events.Goals as goal
use Rattle.world_engine.proofs.field.Field.events.Goals.{After-frame, After-profile, In-Some}

frame : (g : Over) (c : After-profile g) → IsFrame c.args.s.now (clocks_by g.C.DriftClock.readings c.args.s.now.nodes c.args.clocks.now) c.args.frame
frame g c = record {
  sound = c.requires.sound;
  drifts = all_drift g.C.DriftClock.readings g.met.C.DriftClock.keeps_drift_law c.args.s.now.nodes c.args.clocks.now;
  within = c.requires.frame;
}

end : (g : Over) (c : After-frame g) → IsFrame c.args.s.now (clocks_by g.C.DriftClock.readings c.args.s.now.nodes c.args.clocks.now) c.args.frame
    → (c.from.result + 1) * c.frame.result ≡ frame_start c.args.s.now (suc c.args.frame)
end g c at = frame_end at c.from.result c.frame.result c.profile.result c.from.ensures c.frame.ensures.value c.profile.ensures.value

-- the order that is next, and that it is in the frame
abbrev order : (g : Over) (c : In-Some g) → Order
order g c = (c.in-Some.t, c.in-Some.class, c.in-Some.place)

next : (g : Over) (c : In-Some g) → IsNext (g.Q.Orders.map c.loop-t.orders) (Some (order g c))
next g c = subst (IsNext (g.Q.Orders.map c.loop-t.orders)) c.in-Some.is c.next.ensures.least

pub loop-t-init : goal.loop-t-init
loop-t-init g c = at_start (frame g (goal.at.loop-t-init g c).After-profile) c.requires.running

pub returns-then-t-until : goal.returns-then-t-until
returns-then-t-until g c =
    let back = goal.at.returns-then-t-until g c in
    let at = end g back.After-frame (frame g back.After-profile) in (
      over_at_next (frame g back.After-profile) c.loop-t.invariant (order g back.In-Some) (next g back.In-Some) (omega (arith, c.if-t-until.true, at)),
      c.loop-t.invariant.stay,
    )

pub event-requires-clause-within : goal.event-requires-clause-within
event-requires-clause-within g c =
    let back = goal.at.event-requires-clause-within g c in
    let at = end g back.After-frame (frame g back.After-profile) in
    tick_within (frame g back.After-profile) c.loop-t.invariant (order g back.In-Some) (next g back.In-Some) (omega (arith, c.if-t-until.false, at))

pub event-requires-clause-running : goal.event-requires-clause-running
event-requires-clause-running g c =
    let back = goal.at.event-requires-clause-running g c in
    let at = end g back.After-frame (frame g back.After-profile) in (
      told_before c.args.s.now (c.args.frame + 1),
      runs_to (frame g back.After-profile) c.loop-t.invariant (order g back.In-Some) (next g back.In-Some) (omega (arith, c.if-t-until.false, at)),
    )

pub loop-t-smaller : goal.loop-t-smaller
loop-t-smaller g c =
    let back = goal.at.loop-t-smaller g c in
    let at = end g back.After-frame (frame g back.After-profile) in
    let x = order g back.In-Some in
    let run = runs_to (frame g back.After-profile) c.loop-t.invariant x (next g back.In-Some) (omega (arith, c.if-t-until.false, at)) in
    nearer (frame g back.After-profile) c.loop-t.invariant x (next g back.In-Some) (omega (arith, c.if-t-until.false, at)) (g.Q.Orders.map c.event.new.orders)
    (c.in_ok-event.ensures (told_before c.args.s.now (c.args.frame + 1)) run).1

pub loop-t-preserved : goal.loop-t-preserved
loop-t-preserved g c =
    let back = goal.at.loop-t-preserved g c in
    let at = end g back.After-frame (frame g back.After-profile) in
    let x = order g back.In-Some in
    let run = runs_to (frame g back.After-profile) c.loop-t.invariant x (next g back.In-Some) (omega (arith, c.if-t-until.false, at)) in
    let after = c.in_ok-event.ensures (told_before c.args.s.now (c.args.frame + 1)) run in
    goes_on (frame g back.After-profile) c.loop-t.invariant x (next g back.In-Some) (omega (arith, c.if-t-until.false, at)) after.0 after.2

pub returns : goal.returns
returns g c = (
  over_at_none (frame g (goal.at.returns g c).After-profile) c.loop-t.invariant
      (subst (IsNext (g.Q.Orders.map c.loop-t.orders)) c.in_default.is c.next.ensures.least),
  c.loop-t.invariant.stay,
)
