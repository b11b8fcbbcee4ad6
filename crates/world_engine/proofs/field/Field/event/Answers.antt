use Rattle.std.proofs.lemmas.Result.{on_ok_weaker}
use Rattle.link_trace.specs.Sealed.{traced}
use Rattle.world_engine.proofs.DueSteps.{IsDue, early, shown, inside, clock_there, trace_sealed, sending, ends, end_done, alarms_over, alarm_done}
use Rattle.world_engine.proofs.DueSteps.{start_stands, start_done}
use Rattle.world_engine.proofs.field.Field.event.Given.{Over}
use Rattle.world_engine.proofs.field.Field.event.Goals as goal
use Rattle.world_engine.proofs.field.Field.event.Goals.{Start}

due : (g : Over) (c : Start g) → IsDue g.C.DriftClock.readings c.args.s.now c.args.clocks.now c.args.due (g.Q.Orders.map c.args.orders.now)
due g c = record {
  law = g.met.C.DriftClock.keeps_drift_law;
  sound = c.requires.sound;
  count = c.requires.clocks;
  within = c.requires.within;
  next = c.requires.next;
}

-- the end of a transmission
pub end-requires-clause-shown : goal.end-requires-clause-shown
end-requires-clause-shown g c = shown (due g (goal.at.end-requires-clause-shown g c).Start) c.requires.running.1

pub end-requires-clause-early : goal.end-requires-clause-early
end-requires-clause-early g c = early (due g (goal.at.end-requires-clause-early g c).Start)

pub end-requires-clause-seal : goal.end-requires-clause-seal
end-requires-clause-seal g c =
    trace_sealed (due g (goal.at.end-requires-clause-seal g c).Start) c.requires.running.1
    (traced (g.M.Links.lines c.links.result.now) (g.M.Links.nodes c.links.result.now)) c.links.ensures.sealed

pub end-requires-clause-ends : goal.end-requires-clause-ends
end-requires-clause-ends g c = ends (due g (goal.at.end-requires-clause-ends g c).Start) c.requires.running.1 c.in-SendingEnd.is

pub returns-in-SendingEnd : goal.returns-in-SendingEnd
returns-in-SendingEnd g c = λ told run.
    let at = due g (goal.at.returns-in-SendingEnd g c).Start in
    let is = c.in-SendingEnd.is in
    let x = sending at run is in
    on_ok_weaker c.end.result (λ done. end_done at run is c.links.ensures.value done) (c.end.ensures x.0 x.2)

-- its alarms
pub alarm-requires-clause-shown : goal.alarm-requires-clause-shown
alarm-requires-clause-shown g c =
    let at = due g (goal.at.alarm-requires-clause-shown g c).Start in
    let run = c.requires.running.1 in shown at run c.args.due.2 (inside at run)

pub alarm-requires-clause-early : goal.alarm-requires-clause-early
alarm-requires-clause-early g c = early (due g (goal.at.alarm-requires-clause-early g c).Start)

pub alarm-requires-clause-ends : goal.alarm-requires-clause-ends
alarm-requires-clause-ends g c =
    let at = due g (goal.at.alarm-requires-clause-ends g c).Start in
    let run = c.requires.running.1 in alarms_over at run c.in-Alarm.is (clock_there at run c.from.ensures c.index-clocks-from.is)

pub returns-in-Alarm : goal.returns-in-Alarm
returns-in-Alarm g c = λ told run.
    let at = due g (goal.at.returns-in-Alarm g c).Start in
    on_ok_weaker c.alarm.result (λ acts. alarm_done at run c.in-Alarm.is (clock_there at run c.from.ensures c.index-clocks-from.is) acts) c.alarm.ensures

-- a start
pub begin-requires-clause-shown : goal.begin-requires-clause-shown
begin-requires-clause-shown g c =
    let at = due g (goal.at.begin-requires-clause-shown g c).Start in
    let run = c.requires.running.1 in shown at run c.args.due.2 (inside at run)

pub begin-requires-clause-early : goal.begin-requires-clause-early
begin-requires-clause-early g c = early (due g (goal.at.begin-requires-clause-early g c).Start)

pub begin-requires-clause-stands : goal.begin-requires-clause-stands
begin-requires-clause-stands g c = start_stands (due g (goal.at.begin-requires-clause-stands g c).Start) c.requires.running.1 c.in-SendingStart.is

pub returns-in-SendingStart : goal.returns-in-SendingStart
returns-in-SendingStart g c = λ told run.
    on_ok_weaker c.begin.result (λ all. start_done (due g (goal.at.returns-in-SendingStart g c).Start) run c.in-SendingStart.is all) c.begin.ensures
