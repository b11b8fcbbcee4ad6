use Rattle.std.proofs.Common.{◌≡◌, ◌∙◌, ap, arith, length}
use Rattle.air_log.specs.ClockLists.{clocks_by}
use Rattle.world_engine.specs.Counting.{all_scans_before}
use Rattle.air_log.specs.Idling.{idle_before}
use Rattle.world_engine.proofs.FramesInCode.{first_frame, last_frame, as_many_scanned, few_scanned, scanned_through}
use Rattle.world_engine.proofs.IdleNodes.{listed_through}
use Rattle.world_engine.proofs.field.Field.frames.Goals as goal

pub loop-frame-init : goal.loop-frame-init
loop-frame-init g c =
    first_frame c.args.s.now (clocks_by g.C.DriftClock.readings c.args.s.now.nodes c.args.clocks.now) c.args.self.now (g.Q.Orders.map c.args.orders.now)
    (length c.nodes.result.now) c.in_ok-scanned.scanned.items c.new-idle.result.items (ap length c.nodes.ensures) c.in_ok-scanned.ensures
    c.new-idle.ensures.items c.requires.running

pub lines-requires-clause-first : goal.lines-requires-clause-first
lines-requires-clause-first g c = c.loop-frame.invariant.cut

pub lines-requires-clause-running : goal.lines-requires-clause-running
lines-requires-clause-running g c = c.loop-frame.invariant.run

pub count_scanners-requires-clause-places : goal.count_scanners-requires-clause-places
count_scanners-requires-clause-places g c =
    let over = c.loop-frame-test.true in
    as_many_scanned c.args.s.now (clocks_by g.C.DriftClock.readings c.args.s.now.nodes c.args.clocks.now) c.requires.sound c.loop-frame.frame
    (omega (arith, over, c.frames-frame-end.ensures.value)) c.loop-frame.scanned.items
    c.loop-frame.self c.lines.new.self
    (g.Q.Orders.map c.lines.new.orders) c.loop-frame.invariant.scanned_are c.in_ok-told.ensures.stay c.in_ok-told.ensures.told

pub count_scanners-requires-clause-few : goal.count_scanners-requires-clause-few
count_scanners-requires-clause-few g c =
    let over = c.loop-frame-test.true in
    few_scanned c.args.s.now (clocks_by g.C.DriftClock.readings c.args.s.now.nodes c.args.clocks.now) c.requires.sound c.loop-frame.frame
    (omega (arith, over, c.frames-frame-end.ensures.value)) c.loop-frame.scanned.items
    c.loop-frame.self c.lines.new.self
    (g.Q.Orders.map c.lines.new.orders) c.loop-frame.invariant.scanned_are c.in_ok-told.ensures.stay c.in_ok-told.ensures.told

pub loop-frame-preserved : goal.loop-frame-preserved
loop-frame-preserved g c =
    let over = c.loop-frame-test.true in
    record {
      cut = c.in_ok-told.ensures.next;
      run = c.in_ok-events.ensures.0;
      scanned_are =
          scanned_through c.args.s.now (clocks_by g.C.DriftClock.readings c.args.s.now.nodes c.args.clocks.now) c.requires.sound c.loop-frame.frame
          (omega (arith, over, c.frames-frame-end.ensures.value)) c.loop-frame.scanned.items
          c.loop-frame.self c.lines.new.self
          (g.Q.Orders.map c.lines.new.orders) c.loop-frame.invariant.scanned_are c.in_ok-told.ensures.stay c.in_ok-told.ensures.told
          c.count_scanners.new.scanned.items c.events.new.self c.count_scanners.ensures c.in_ok-events.ensures.1;
      idle_are =
          listed_through c.args.s.now (clocks_by g.C.DriftClock.readings c.args.s.now.nodes c.args.clocks.now) c.requires.sound c.loop-frame.frame
          (omega (arith, over, c.frames-frame-end.ensures.value)) c.lines.new.self (g.Q.Orders.map c.lines.new.orders) c.in_ok-told.ensures.told
          c.loop-frame.idle.items c.list_idle.new.idle.items c.loop-frame.self c.events.new.self c.loop-frame.invariant.idle_are
          c.in_ok-list_idle.ensures c.in_ok-told.ensures.stay c.in_ok-events.ensures.1;
    }

pub returns-clause-running : goal.returns-clause-running
returns-clause-running g c =
    let over = c.loop-frame-test.false in
    let within = c.loop-frame.auto.frame-end in
    last_frame c.args.s.now
    (clocks_by g.C.DriftClock.readings c.args.s.now.nodes c.args.clocks.now) c.requires.sound c.loop-frame.told c.loop-frame.frame
    c.loop-frame.scanned.items c.loop-frame.idle.items c.loop-frame.self (g.Q.Orders.map c.loop-frame.orders)
    (omega (arith, over, within, c.frames-frame-end.ensures.value)) c.loop-frame.invariant

pub returns-clause-scanned : goal.returns-clause-scanned
returns-clause-scanned g c =
    let over = c.loop-frame-test.false in
    let within = c.loop-frame.auto.frame-end in
    let all : c.loop-frame.frame ≡ c.args.s.now.frames = omega (arith, over, within, c.frames-frame-end.ensures.value) in
    c.loop-frame.invariant.scanned_are
    ∙ ap (all_scans_before c.args.s.now (clocks_by g.C.DriftClock.readings c.args.s.now.nodes c.args.clocks.now) c.loop-frame.self.air) all

pub returns-clause-idle : goal.returns-clause-idle
returns-clause-idle g c =
    let over = c.loop-frame-test.false in
    let within = c.loop-frame.auto.frame-end in
    let all : c.loop-frame.frame ≡ c.args.s.now.frames = omega (arith, over, within, c.frames-frame-end.ensures.value) in
    c.loop-frame.invariant.idle_are
    ∙ ap (idle_before c.args.s.now (clocks_by g.C.DriftClock.readings c.args.s.now.nodes c.args.clocks.now) c.loop-frame.self.air) all
