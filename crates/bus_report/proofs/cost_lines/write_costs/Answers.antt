use Rattle.std.proofs.Common.{◌≡◌, ◌++◌, List, OnOk, flat_map, true, string_bytes, rules, of_calls, subst, sym}
use Rattle.scenario_text.specs.FloodParts.{knows}
use Rattle.scenario_text.specs.declared.lines.NodeLine.{NodeLine}
use Rattle.bus_report.specs.BusReport.{node_cost}
use Rattle.bus_report.proofs.NodeLines.{known_in}
use Rattle.bus_report.proofs.cost_lines.write_costs.Goals as goal

pub returns : goal.returns
returns c =
    λ s run same.
    let wrote = c.write_lines in
    subst (λ (ns : List NodeLine). OnOk wrote.result (string_bytes wrote.new.text ≡ string_bytes c.args.text.now ++ flat_map (node_cost s) ns)) (sym same)
    (wrote.ensures (node_cost s) (λ old item result new here post.
    let known : knows s.nodes item.now.node ≡ true = known_in c.args.nodes.now s.nodes item.now (sym same) here in
    search (rules, of_calls, post, known, run)))
