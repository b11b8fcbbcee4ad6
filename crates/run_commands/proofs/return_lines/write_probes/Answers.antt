use Rattle.std.proofs.Common.{◌≡◌, ◌++◌, ℕ, List, OnOk, string_bytes, rules, of_calls, subst, ◌∙◌, ap, map, sym}
use Rattle.scenario_text.specs.declared.lines.NodeLine.{NodeLine}
use Rattle.host_return.specs.Probes.{probes}
use Rattle.host_return.specs.Returned.{count_of_node}
use Rattle.run_commands.specs.ReturnReport.{probe_line}
use Rattle.run_commands.proofs.ProbeLines.{probe_lines}
use Rattle.run_commands.proofs.return_lines.write_probes.Goals as goal

pub returns : goal.returns
returns c =
    let x = c.args.returned.now in
    let wrote = c.write_lines in
    let g : ℕ → ℕ = probes x.scenario x.air in
    let counts = c.requires.counts ∙ ap (λ (ns : List NodeLine). map (λ (n : NodeLine). (n.node, g n.node)) ns) (sym c.requires.nodes) in
    subst (λ (t : List ℕ). OnOk wrote.result (string_bytes wrote.new.text ≡ string_bytes c.args.text.now ++ t))
    (probe_lines g x.counts c.args.nodes.now counts)
    (wrote.ensures (λ n. probe_line n.node (count_of_node x.counts n.node)) (λ old item result new here post. search (rules, of_calls, post)))
