use Rattle.std.proofs.Common.{◌≤◌, ℕ, Bool, false, List, subst, refl}
use Rattle.std.proofs.lemmas.List.{take_all}
use Rattle.scenario_text.specs.ScenarioFacts.{turned}
use Rattle.scenario_text.specs.declared.script.ScriptLine.{ScriptLine}
use Rattle.scenario_text.specs.AddedLines.{boots_so_far}
use Rattle.scenario_text.proofs.BootsTold.{told_more, too_many}
use Rattle.scenario_text.proofs.boots.has_few_boots.Goals as goal

pub loop-line-preserved : goal.loop-line-preserved
loop-line-preserved c =
    let b = c.loop-line.boots in
    record {
      counted = λ v. told_more v c.args.script.now c.loop-line.line-index c.line-item.result (boots_so_far b.on b.counts v)
          (boots_so_far c.follow.new.self.on c.follow.new.self.counts v) c.loop-line-test.true c.line-item.is (c.loop-line.invariant.counted v)
          (c.if-not-follow.ensures.told refl v);
      few = c.if-not-follow.ensures.few refl;
    }

pub returns-then-not-follow-clause-many : goal.returns-then-not-follow-clause-many
returns-then-not-follow-clause-many c =
    λ is few.
    let b = c.loop-line.boots in
    let x = c.line-item.result in
    too_many c.args.script.now c.loop-line.line-index x (boots_so_far b.on b.counts x.node) c.loop-line-test.true c.line-item.is
    (c.loop-line.invariant.counted x.node) (c.if-not-follow.ensures.many refl) few

pub returns-clause-few : goal.returns-clause-few
returns-clause-few c =
    λ is v.
    subst (λ (ls : List ScriptLine). (turned v (false, 0) ls).1 ≤ 200) (take_all c.loop-line.line-index c.args.script.now c.loop-line-test.false)
    (subst (λ (t : Bool × ℕ). t.1 ≤ 200) (c.loop-line.invariant.counted v) (c.loop-line.invariant.few v))
