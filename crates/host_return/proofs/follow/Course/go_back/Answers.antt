use Rattle.std.proofs.Common.{◌≡◌, ◌++◌, ◌∷◌, [], List, Option, IfSome, IfNone, refl, sym, ◌∙◌, subst, rules}
use Rattle.scenario_text.specs.AddedLines.{IsWithScript, HasRoom}
use Rattle.scenario_text.specs.ScenarioGrammar.{IsScenario}
use Rattle.scenario_text.specs.ScenarioParts.{ScenarioParts}
use Rattle.host_return.specs.Candidates.{IsNextReturn}
use Rattle.host_return.specs.Restarts.{lines_of_going_back}
use Rattle.host_return.specs.Returned.{Full, NoRoom}
use Rattle.host_return.specs.declared.returned.Return.{Return}
use Rattle.host_return.proofs.follow.Course.go_back.Goals as goal

pub returns-in_default-2-clause-end : goal.returns-in_default-2-clause-end
returns-in_default-2-clause-end g c =
    λ is.
    let s = c.args.self.now.scenario in
    let air = c.args.self.now.air in
    let r = c.in-Some.r in
    let next : IsNextReturn c.args.read.now s air c.args.self.now.returns.items r =
    subst (λ (ls : List Return). IsNextReturn c.args.read.now s air ls r) c.deref-2.ensures.value
    (subst (λ (o : Option Return). IfSome o (IsNextReturn c.args.read.now s air c.deref-2.result.now)) c.in-Some.is c.in_ok-r.ensures.some) in
    (refl, Full r next (subst (λ (o : Option ScenarioParts). IfNone o (NoRoom s air r)) c.in_default-2.is (c.in_ok-scenario.ensures.none air)))

pub returns-clause-more : goal.returns-clause-more
returns-clause-more g c =
    λ is.
    let s = c.args.self.now.scenario in
    let air = c.args.self.now.air in
    let r = c.in-Some.r in
    let run = c.in_ok-run.ensures in
    let lines = lines_of_going_back s air r in
    let both = subst (λ (o : Option ScenarioParts). IfSome o (λ t. IsWithScript s lines t × HasRoom t)) c.in-Some-2.is (c.in_ok-scenario.ensures.some air) in
    let said = subst (λ (o : Option ScenarioParts). IfSome o IsScenario) c.in-Some-2.is c.in_ok-scenario.ensures.said in
    let pushed : c.push.new.self.items ≡ c.args.self.now.returns.items ++ r ∷ [] = search rules in
    record {
      last = r;
      returns = run.returns ∙ pushed;
      next = subst (λ (ls : List Return). IsNextReturn c.args.read.now s air ls r) c.deref-2.ensures.value
          (subst (λ (o : Option Return). IfSome o (IsNextReturn c.args.read.now s air c.deref-2.result.now)) c.in-Some.is c.in_ok-r.ensures.some);
      added = subst (IsWithScript s lines) (sym run.scenario) both.0;
      room = subst HasRoom (sym run.scenario) both.1;
      said = subst IsScenario (sym run.scenario) said;
      lawful = run.lawful;
      idle = run.idle;
    }

pub next_return-requires-clause-idle : goal.next_return-requires-clause-idle
next_return-requires-clause-idle g c = c.deref.ensures.value ∙ c.requires.idle

pub returns-clause-kept : goal.returns-clause-kept
returns-clause-kept g c = λ is. c.in_ok-run.ensures.kept
