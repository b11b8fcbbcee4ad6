use Rattle.std.proofs.Common.{◌≡◌, ◌<◌, Bool, Ok, length, sym, ap, subst, arith, rules}
use Rattle.std.proofs.lemmas.List.{length_push}
use Rattle.scenario_text.proofs.SoundScenarios.{sound}
use Rattle.scenario_clocks.specs.StatedClocks.{scenario_clock}
use Rattle.air_log.specs.Safe.{Safe}
use Rattle.host_return.specs.AfterReturns.{AllProbed, AllQuiet}
use Rattle.host_return.specs.Courses.{IsOneMore}
use Rattle.host_return.specs.Probes.{idle_of}
use Rattle.host_return.specs.Returned.{IsReturned}
use Rattle.host_return.specs.declared.follow.Course.{Course}
use Rattle.host_return.proofs.Followed.{one_more, ended_early, parts_of, sixteen, handed, run_is_safe}
use Rattle.host_return.proofs.ProbedStill.{AreProbed, none_probed, still_are}
use Rattle.host_return.proofs.QuietReturns.{all_quiet}
use Rattle.host_return.proofs.follow.follow.Goals as goal

pub loop-course-init : goal.loop-course-init
loop-course-init g c =
    let first = c.in_ok-course.course in
    let is = c.in_ok-course.ensures in (
      is.followed,
      none_probed c.args.s.now first.scenario first.air first.returns.items is.none,
      is.kept,
    )

pub loop-course-preserved : goal.loop-course-preserved
loop-course-preserved g c =
    let read = c.args.s.now in
    let old = c.loop-course.course in
    let new = c.go_back.new.self in
    let less : length old.returns.items < 16 = search rules in
    let was = c.loop-course.invariant in
    let taken = ap (λ (b : Bool). Ok b) c.if-not-branch.false in
    let more : IsOneMore read old new = c.in_ok-go_back.ensures.more taken in (
      one_more read old new less was.0 more,
      still_are read old new (sound old.scenario was.0.said) (sound new.scenario more.said) was.0.lawful more was.0.frames was.1,
      c.in_ok-go_back.ensures.kept taken,
    )

pub loop-course-smaller : goal.loop-course-smaller
loop-course-smaller g c =
    let old = c.loop-course.course in
    let less : length old.returns.items < 16 = search rules in
    let more : IsOneMore c.args.s.now old c.go_back.new.self = c.in_ok-go_back.ensures.more (ap (λ (b : Bool). Ok b) c.if-not-branch.false) in
    omega (arith, less, ap length more.returns, length_push old.returns.items more.last)

pub finish-requires : goal.finish-requires
finish-requires g c =
    let end = c.in_ok-go_back.ensures.end (ap (λ (b : Bool). Ok b) c.if-not-branch.true) in
    subst (λ (k : Course). k.idle.items ≡ idle_of k.scenario k.air) (sym end.0) c.loop-course.invariant.0.idle

pub returns-then-not-branch : goal.returns-then-not-branch
returns-then-not-branch g c =
    let read = c.args.s.now in
    let old = c.loop-course.course in
    let new = c.go_back.new.self in
    let was = c.loop-course.invariant in
    let no_more = ap (λ (b : Bool). Ok b) c.if-not-branch.true in
    let end = c.in_ok-go_back.ensures.end no_more in
    record {
      returned = handed (IsReturned read) new c.finish.result c.finish.ensures (ended_early read old new was.0 end.0 end.1);
      safe = handed (λ x. Safe x.scenario (scenario_clock x.scenario) x.air) new c.finish.result c.finish.ensures
          (subst (λ (k : Course). Safe k.scenario (scenario_clock k.scenario) k.air) (sym end.0) (run_is_safe read old was.0));
      probed = handed AllProbed new c.finish.result c.finish.ensures
          (subst (λ (k : Course). AreProbed read k.scenario k.air k.returns.items) (sym end.0) was.1).probed;
      quiet = handed AllQuiet new c.finish.result c.finish.ensures
          (subst (λ (k : Course). AllQuiet (parts_of k)) (sym end.0) (all_quiet read old was.0 was.1));
      kept = handed (λ x. g.R.Runner.kept c.go_back.new.runner x.scenario x.air) new c.finish.result c.finish.ensures
          (subst (λ (r : g.row.R.Denot). g.R.Runner.kept r new.scenario new.air) (sym (c.in_ok-go_back.ensures.no_run no_more))
          (subst (λ (k : Course). g.R.Runner.kept c.loop-course.runner k.scenario k.air) (sym end.0) was.2));
    }

pub returns : goal.returns
returns g c =
    let read = c.args.s.now in
    let last = c.loop-course.course in
    let was = c.loop-course.invariant in
    let many : length last.returns.items < 16 → ⊥ = λ less. absurd (let past = c.loop-course-test.false in omega (arith, less, past, c.len.ensures)) in
    record {
      returned = handed (IsReturned read) last c.finish-2.result c.finish-2.ensures (sixteen read last was.0 many);
      safe = handed (λ x. Safe x.scenario (scenario_clock x.scenario) x.air) last c.finish-2.result c.finish-2.ensures (run_is_safe read last was.0);
      probed = handed AllProbed last c.finish-2.result c.finish-2.ensures was.1.probed;
      quiet = handed AllQuiet last c.finish-2.result c.finish-2.ensures (all_quiet read last was.0 was.1);
      kept = handed (λ x. g.R.Runner.kept c.loop-course.runner x.scenario x.air) last c.finish-2.result c.finish-2.ensures was.2;
    }
