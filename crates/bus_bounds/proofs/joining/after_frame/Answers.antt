use Rattle.std.proofs.Common.{◌≡◌, ℕ, List, [], Bool, true, Some, flat_map, if◌then◌else◌, sym, ◌∙◌, ap}
use Rattle.bus_bounds.specs.JoinFindings.{of_node}
use Rattle.bus_bounds.specs.JoinRounds.{both_of}
use Rattle.bus_bounds.specs.PowerLines.{boots_in, power_lines}
use Rattle.bus_bounds.specs.declared.boot.Boot.{Boot}
use Rattle.bus_bounds.specs.declared.power_line.PowerLine.{PowerLine}
use Rattle.bus_bounds.proofs.JoinPieces.{all_nodes}
use Rattle.bus_bounds.proofs.joining.after_frame.Goals as goal

pub returns : goal.returns
returns c =
    let s = c.args.scenario.now in
    let ratios = c.args.ratios.now.lines in
    let host = c.args.host in
    let b = c.args.frame in
    let x : Boot = record { host = host; frame = b; round = c.in_ok-round.round } in
    let boots : boots_in c.args.lines.now host b ≡ true = sym c.boots_in.ensures ∙ c.if-not-boots_in.false in
    c.in_ok-found.ensures
    ∙ ap (λ (ls : List PowerLine). flat_map (both_of ls c.frames.result x) c.args.nodes.now) c.requires.lines
    ∙ ap (λ (n : ℕ). flat_map (both_of (power_lines s.script) n x) c.args.nodes.now) c.frames.ensures.value
    ∙ ap (flat_map (both_of (power_lines s.script) s.frames x)) c.requires.nodes
    ∙ all_nodes s ratios x c.in_ok-round.ensures
    ∙ ap (flat_map (of_node s ratios host (Some b))) (sym c.requires.nodes)
    ∙ ap (λ (t : Bool). if t then flat_map (of_node s ratios host (Some b)) c.args.nodes.now else []) (sym boots)
