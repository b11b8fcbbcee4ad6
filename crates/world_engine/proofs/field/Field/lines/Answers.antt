use Rattle.std.proofs.Common.{◌≡◌, Some, None, List, arith}
use Rattle.std.specs.Prelude.{slice_get}
use Rattle.std.proofs.lemmas.Option.{slice_get_within}
use Rattle.scenario_text.specs.ScenarioParts.{ScenarioParts}
use Rattle.air_log.specs.ClockLists.{clocks_by}
use Rattle.air_log.proofs.FramesOfCourses.{tick_of}
use Rattle.air_log.proofs.ListCuts.{read_at, read_past}
use Rattle.world_engine.proofs.ClocksAtPlaces.{all_drift}
use Rattle.world_engine.proofs.LinesInCode.{none_told, next_told, one_more_told, later_line, no_line, lines_told, all_told}
use Rattle.world_engine.proofs.TrailsGoOn.{AreClocks}
use Rattle.world_engine.proofs.field.Field.lines.Given.{Over}
use Rattle.world_engine.proofs.field.Field.lines.Goals as goal
use Rattle.world_engine.proofs.field.Field.lines.Goals.{In-Some, In_default}

drifts : (g : Over) (s : ScenarioParts) (cs : List g.row.C.Denot) → AreClocks (clocks_by g.C.DriftClock.readings s.nodes cs)
drifts g s cs = all_drift g.C.DriftClock.readings g.met.C.DriftClock.keeps_drift_law s.nodes cs

-- the line that is read, and that none is
line_there : (g : Over) (c : In-Some g) → slice_get c.args.s.now.script c.loop-line.told ≡ Some c.in-Some.line.now
line_there g c =
    read_at c.args.s.now.script c.script.result.now c.loop-line.told c.in-Some.line.now c.script.ensures.value c.in-Some.ensures.lookup.0
    c.in-Some.ensures.lookup.1

none_there : (g : Over) (c : In_default g) → slice_get c.args.s.now.script c.loop-line.told ≡ None
none_there g c = read_past c.args.s.now.script c.script.result.now c.loop-line.told c.script.ensures.value c.in_default.ensures.lookup.0

pub loop-line-init : goal.loop-line-init
loop-line-init g c = none_told c.requires.sound (drifts g c.args.s.now c.args.clocks.now) c.requires.first c.requires.running

pub returns-then-line-frame-clause-next : goal.returns-then-line-frame-clause-next
returns-then-line-frame-clause-next g c =
    later_line c.requires.sound c.loop-line.invariant c.in-Some.line.now (line_there g (goal.at.returns-then-line-frame-clause-next g c).In-Some)
    c.if-line-frame.true

pub returns-then-line-frame-clause-running : goal.returns-then-line-frame-clause-running
returns-then-line-frame-clause-running g c =
    all_told c.requires.sound c.loop-line.invariant (drifts g c.args.s.now c.args.clocks.now)
    (later_line c.requires.sound c.loop-line.invariant c.in-Some.line.now (line_there g (goal.at.returns-then-line-frame-clause-running g c).In-Some)
    c.if-line-frame.true)

pub line-requires-clause-next : goal.line-requires-clause-next
line-requires-clause-next g c =
    next_told c.requires.sound c.loop-line.invariant (line_there g (goal.at.line-requires-clause-next g c).In-Some) c.if-line-frame.false
    (tick_of c.args.s.now c.args.frame c.from.result c.frame.result c.profile.result c.from.ensures c.frame.ensures.value c.profile.ensures.value)

pub loop-line-smaller : goal.loop-line-smaller
loop-line-smaller g c =
    let below = slice_get_within c.args.s.now.script c.loop-line.told c.in-Some.line.now (line_there g (goal.at.loop-line-smaller g c).In-Some) in
    omega (arith, below)

pub loop-line-preserved : goal.loop-line-preserved
loop-line-preserved g c =
    one_more_told c.requires.sound c.loop-line.invariant (line_there g (goal.at.loop-line-preserved g c).In-Some) c.if-line-frame.false
    (tick_of c.args.s.now c.args.frame c.from.result c.frame.result c.profile.result c.from.ensures c.frame.ensures.value c.profile.ensures.value)
    c.in_ok-line.ensures

pub returns-clause-next : goal.returns-clause-next
returns-clause-next g c = no_line c.requires.sound c.loop-line.invariant (none_there g (goal.at.returns-clause-next g c).In_default)

pub returns-clause-running : goal.returns-clause-running
returns-clause-running g c =
    all_told c.requires.sound c.loop-line.invariant (drifts g c.args.s.now c.args.clocks.now)
    (no_line c.requires.sound c.loop-line.invariant (none_there g (goal.at.returns-clause-running g c).In_default))

pub returns-then-line-frame-clause-told : goal.returns-then-line-frame-clause-told
returns-then-line-frame-clause-told g c =
    lines_told c.requires.sound c.loop-line.invariant
    (later_line c.requires.sound c.loop-line.invariant c.in-Some.line.now (line_there g (goal.at.returns-then-line-frame-clause-told g c).In-Some)
    c.if-line-frame.true)

pub returns-clause-told : goal.returns-clause-told
returns-clause-told g c =
    lines_told c.requires.sound c.loop-line.invariant
    (no_line c.requires.sound c.loop-line.invariant (none_there g (goal.at.returns-clause-told g c).In_default))

pub returns-then-line-frame-clause-stay : goal.returns-then-line-frame-clause-stay
returns-then-line-frame-clause-stay g c = c.loop-line.invariant.stay

pub returns-clause-stay : goal.returns-clause-stay
returns-clause-stay g c = c.loop-line.invariant.stay
