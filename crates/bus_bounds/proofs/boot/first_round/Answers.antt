use Rattle.std.proofs.Common.{◌≡◌, ◌+◌, List, None, rules, ◌∙◌, ap, ℕ}
use Rattle.scenario_text.specs.declared.lines.NodeLine.{NodeLine}
use Rattle.bus_terms.specs.FloodOfText.{ids}
use Rattle.bus_terms.specs.Flooding.{has}
use Rattle.bus_bounds.specs.JoinFindings.{loss_in, nodes_up}
use Rattle.bus_bounds.specs.PowerLines.{power_lines}
use Rattle.bus_bounds.specs.declared.power_line.PowerLine.{PowerLine}
use Rattle.bus_bounds.proofs.JoinedNodes.{host_there}
use Rattle.bus_bounds.proofs.QuietFrames.{no_loss}
use Rattle.bus_bounds.proofs.boot.first_round.Goals as goal

pub reached-requires-clause-lossless : goal.reached-requires-clause-lossless
reached-requires-clause-lossless c =
    let none : loss_in c.args.scenario.now (c.args.frame + c.from.result) ≡ None = search rules in
    no_loss c.args.scenario.now (c.args.frame + c.from.result) none

pub reached-requires-clause-up : goal.reached-requires-clause-up
reached-requires-clause-up c =
    let s = c.args.scenario.now in
    let host = c.args.host in
    let b = c.args.frame in
    ap (λ (vs : List ℕ). has vs host) (c.deref.ensures.value ∙ c.in_ok-up.ensures
    ∙ ap (λ (ls : List PowerLine). nodes_up ls (ids c.nodes.result.now) host b) c.requires.lines
    ∙ ap (λ (ns : List NodeLine). nodes_up (power_lines s.script) (ids ns) host b) c.nodes.ensures.value)
    ∙ host_there s c.nodes.ensures.said c.args.ratios.now.lines host c.requires.known b
