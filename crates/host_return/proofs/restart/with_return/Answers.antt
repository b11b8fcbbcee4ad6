use Rattle.std.proofs.Common.{◌≤◌, ◌∙◌, List, All, AllPairs, IfOk, IfSome, IfNone, subst, sym}
use Rattle.scenario_text.specs.AddedLines.{IsWithScript, HasRoom}
use Rattle.scenario_text.specs.ScenarioFacts.{IsScriptLine}
use Rattle.scenario_text.specs.ScenarioParts.{ScenarioParts}
use Rattle.scenario_text.specs.declared.script.ScriptLine.{ScriptLine}
use Rattle.host_return.proofs.restart.with_return.Goals as goal

pub with_script-requires-clause-in_range : goal.with_script-requires-clause-in_range
with_script-requires-clause-in_range c = subst (All (IsScriptLine c.args.s.now)) (sym c.deref.ensures.value) c.in_ok-lines.ensures.in_range

pub with_script-requires-clause-ascending : goal.with_script-requires-clause-ascending
with_script-requires-clause-ascending c =
    subst (λ (ls : List ScriptLine). AllPairs (λ a b. a.frame ≤ b.frame) ls) (sym c.deref.ensures.value) c.in_ok-lines.ensures.ascending

pub returns-clause-some : goal.returns-clause-some
returns-clause-some c =
    λ air.
    subst (λ (ls : List ScriptLine). IfOk c.with_script.result (λ o. IfSome o (λ t. IsWithScript c.args.s.now ls t × HasRoom t)))
    (c.deref.ensures.value ∙ c.in_ok-lines.ensures.lines air) c.with_script.ensures.some

pub returns-clause-none : goal.returns-clause-none
returns-clause-none c =
    λ air.
    subst
    (λ (ls : List ScriptLine). IfOk c.with_script.result (λ o. IfNone o ((t : ScenarioParts) → IsWithScript c.args.s.now ls t → HasRoom t → ⊥)))
    (c.deref.ensures.value ∙ c.in_ok-lines.ensures.lines air) c.with_script.ensures.none
