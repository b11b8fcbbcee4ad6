use Rattle.std.proofs.Common.{◌+◌, ◌≤◌, List, All, AllPairs, ap, sym, subst, ◌∙◌, arith}
use Rattle.scenario_text.specs.ScenarioFacts.{IsScriptLine}
use Rattle.scenario_text.specs.declared.script.ScriptLine.{ScriptLine}
use Rattle.scenario_text.proofs.SoundScenarios.{sound}
use Rattle.host_return.specs.Restarts.{restart}
use Rattle.host_return.specs.Wishes.{told}
use Rattle.host_return.proofs.Restarting.{restart_told, restart_in_range, restart_ascends}
use Rattle.host_return.proofs.restart.lines_of.Goals as goal

pub overflow_add-r : goal.overflow_add-r
overflow_add-r c =
    let few = (sound c.args.s.now c.script-script.ensures.said).few_frames in
    let within = c.requires.in_run in
    omega (arith, few, within)

pub returns-clause-lines : goal.returns-clause-lines
returns-clause-lines c =
    λ air.
    let s = c.args.s.now in
    let r = c.args.r.now in
    c.in_ok-lines.ensures
    ∙ ap (λ (ls : List ScriptLine). restart (r.frame + 1) r.node (λ i. (told (r.frame + 1) r.node i ls).1)) c.script-script.ensures.value
    ∙ restart_told s air r (sound s c.script-script.ensures.said)

pub returns-clause-in_range : goal.returns-clause-in_range
returns-clause-in_range c =
    let s = c.args.s.now in
    let r = c.args.r.now in
    let same = c.in_ok-lines.ensures
    ∙ ap (λ (ls : List ScriptLine). restart (r.frame + 1) r.node (λ i. (told (r.frame + 1) r.node i ls).1)) c.script-script.ensures.value in
    subst (All (IsScriptLine s)) (sym same)
    (restart_in_range s (r.frame + 1) r.node (sound s c.script-script.ensures.said) c.requires.in_run c.requires.known)

pub returns-clause-ascending : goal.returns-clause-ascending
returns-clause-ascending c =
    let r = c.args.r.now in
    subst (λ (ls : List ScriptLine). AllPairs (λ a b. a.frame ≤ b.frame) ls) (sym c.in_ok-lines.ensures)
    (restart_ascends (r.frame + 1) r.node (λ i. (told (r.frame + 1) r.node i c.script-script.result.now).1) c.args.s.now)
