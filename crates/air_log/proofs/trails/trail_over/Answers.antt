use Rattle.std.proofs.Common.{◌≡◌, ◌<◌, ◌*◌, ◌+◌, ℕ, List, [], map, take, Option, false, sym, ap, subst, ◌∙◌, arith}
use Rattle.scenario_text.proofs.SoundScenarios.{sound}
use Rattle.scenario_text.specs.ScenarioFacts.{turned}
use Rattle.bus_rules.specs.Cores.{Setup}
use Rattle.bus_rules.specs.declared.tune.Tune.{Tune}
use Rattle.air_log.specs.declared.entry.HeardEntry.{HeardEntry}
use Rattle.air_log.specs.Lawful.{by_end, reception_of}
use Rattle.scenario_text.specs.Setups.{setup_of}
use Rattle.air_log.specs.Trails.{frame_start, at_frame, before_tick}
use Rattle.air_log.specs.Courses.{CourseShows, IsSortedByKey, IsSplitByKey, end_of_reception, reception_in, hearing_of}
use Rattle.air_log.proofs.FramesOfCourses.{tick_of}
use Rattle.air_log.proofs.TrailsOfCourses.{IsAtFrame, begins, after_lines_shows, tunes_more, scanned_more, tune_in, told_is}
use Rattle.air_log.proofs.trails.trail_over.Goals as goal

pub loop-frame-init : goal.loop-frame-init
loop-frame-init g c =
    let none : List (Option Tune) = [] in
    subst (λ (ts : List (Option Tune)). IsAtFrame (g.C.DriftClock.readings c.args.clock.now) c.args.s.now c.args.node c.in_ok-heard.heard.items 0 0 0 ts 0
    c.in_ok-course.course) (sym c.new-tunes.ensures.items)
    (begins (g.C.DriftClock.readings c.args.clock.now) c.args.s.now c.args.node c.in_ok-heard.heard.items c.in_ok-course.course c.in_ok-course.ensures)

pub lines-requires-clause-sound : goal.lines-requires-clause-sound
lines-requires-clause-sound g c = sound c.args.s.now c.profile.ensures.said

pub lines-requires-clause-cut : goal.lines-requires-clause-cut
lines-requires-clause-cut g c = c.loop-frame.invariant.lines

pub lines-requires-clause-shown : goal.lines-requires-clause-shown
lines-requires-clause-shown g c = record { setup = _; device = _; shows = c.loop-frame.invariant.shows }

pub lines-requires-clause-profile : goal.lines-requires-clause-profile
lines-requires-clause-profile g c = ap (λ (q : Setup). q.profile) c.loop-frame.invariant.shows.shows.setup

pub lines-requires-clause-power : goal.lines-requires-clause-power
lines-requires-clause-power g c =
    let i = c.loop-frame.invariant in
    i.power ∙ ap (λ (q : Setup). turned q.id (false, 0) (take c.loop-frame.told c.args.s.now.script)) (sym i.shows.shows.setup)

pub frame-requires-clause-sound : goal.frame-requires-clause-sound
frame-requires-clause-sound g c = sound c.args.s.now c.profile.ensures.said

pub frame-requires-clause-ascends : goal.frame-requires-clause-ascends
frame-requires-clause-ascends g c =
    subst (λ (hs : List HeardEntry). IsSortedByKey end_of_reception hs) (sym c.as_slice.ensures.value) c.in_ok-heard.ensures.ascends

pub frame-requires-clause-cut : goal.frame-requires-clause-cut
frame-requires-clause-cut g c =
    subst (λ (hs : List HeardEntry). IsSplitByKey end_of_reception hs c.loop-frame.next (frame_start c.args.s.now c.loop-frame.frame))
    (sym c.as_slice.ensures.value) c.loop-frame.invariant.hearings

pub frame-requires-clause-shown : goal.frame-requires-clause-shown
frame-requires-clause-shown g c =
    let clock = g.C.DriftClock.readings c.args.clock.now in
    let s = c.args.s.now in
    let l = c.loop-frame in (
      c.args.node,
      subst (λ (hs : List HeardEntry). CourseShows (setup_of s c.args.node) (frame_start s l.frame) c.lines.new.self
          (at_frame s c.args.node clock (map reception_in hs) l.frame)) (sym c.as_slice.ensures.value)
          (after_lines_shows clock s c.args.node c.in_ok-heard.heard.items l.frame l.told l.next l.tunes.items l.scanned l.course c.lines.new.self l.invariant
          c.in_ok-told.ensures.goes),
    )

pub loop-frame-preserved : goal.loop-frame-preserved
loop-frame-preserved g c =
    let clock = g.C.DriftClock.readings c.args.clock.now in
    let s = c.args.s.now in
    let l = c.loop-frame in
    let hs = c.in_ok-heard.heard.items in
    let value = c.as_slice.ensures.value in
    let lined : CourseShows (setup_of s c.args.node) (frame_start s l.frame) c.lines.new.self (at_frame s c.args.node clock (map reception_in hs) l.frame) =
    after_lines_shows clock s c.args.node hs l.frame l.told l.next l.tunes.items l.scanned l.course c.lines.new.self l.invariant c.in_ok-told.ensures.goes in
    let within : l.frame < s.frames = omega (arith, c.loop-frame-test.true, c.frames-frame-end.ensures.value) in
    let tune = tune_in clock s c.args.node hs l.frame c.lines.new.self within lined in
    record {
      lines = c.in_ok-told.ensures.cut;
      hearings =
          subst (λ (xs : List HeardEntry). IsSplitByKey end_of_reception xs c.in_ok-next.next (frame_start s (l.frame + 1))) value c.in_ok-next.ensures.cut;
      shows =
          subst (λ (xs : List HeardEntry). CourseShows (setup_of s c.args.node) (frame_start s (l.frame + 1)) c.frame.new.self
          (before_tick s c.args.node clock (map reception_in xs) (frame_start s (l.frame + 1)))) value
          (c.in_ok-next.ensures.shows c.args.node (subst
          (λ (xs : List HeardEntry). CourseShows (setup_of s c.args.node) (frame_start s l.frame) c.lines.new.self
          (at_frame s c.args.node clock (map reception_in xs) l.frame)) (sym value) lined));
      power =
          c.in_ok-next.ensures.power ∙ c.in_ok-told.ensures.power
          ∙ ap (λ (q : Setup). turned q.id (false, 0) (take c.in_ok-told.told s.script)) l.invariant.shows.shows.setup;
      tunes_are = c.in_ok-scanned.ensures.tunes ∙ tunes_more clock s c.args.node hs l.frame l.tunes.items _ l.invariant.tunes_are tune;
      scanned_are =
          ap (λ (n : ℕ). l.scanned + n) c.in_ok-scanned.ensures.scans ∙ scanned_more clock s c.args.node hs l.frame l.scanned _ l.invariant.scanned_are tune;
      few = omega (arith, l.invariant.few, c.in_ok-scanned.ensures.few);
    }

pub returns : goal.returns
returns g c =
    let clock = g.C.DriftClock.readings c.args.clock.now in
    let s = c.args.s.now in
    let l = c.loop-frame in
    let hs = c.in_ok-heard.heard.items in
    let over : l.frame ≡ s.frames = omega (arith, c.loop-frame-test.false, l.auto.frame-end, c.frames-frame-end.ensures.value) in
    let end = tick_of s s.frames c.from.result c.frame-length.result c.profile.result
    (c.from.ensures ∙ c.frames.ensures.value) c.frame-length.ensures.value c.profile.ensures.value in
    told_is clock s c.args.node hs (sound s c.profile.ensures.said)
    (g.met.C.DriftClock.keeps_drift_law c.args.clock.now) l.frame l.told l.next l.tunes.items l.scanned l.course l.invariant over
    (c.from.result * c.frame-length.result) end c.close.new.self c.in_ok-close.ensures c.told.result c.told.ensures
    (map reception_of (by_end (map hearing_of c.args.heard.items))) c.in_ok-heard.ensures.taken
