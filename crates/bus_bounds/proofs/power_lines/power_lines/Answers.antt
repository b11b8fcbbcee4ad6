use Rattle.std.proofs.Common.{◌++◌, List, option_to_list, sym, ◌∙◌, ap}
use Rattle.lwb_base.proofs.Lists.{filter_map_more}
use Rattle.bus_bounds.specs.PowerLines.{power_line}
use Rattle.bus_bounds.specs.declared.power_line.PowerLine.{PowerLine}
use Rattle.bus_bounds.proofs.power_lines.power_lines.Goals as goal

pub loop-line-preserved : goal.loop-line-preserved
loop-line-preserved c =
    let l = c.loop-line in
    c.in_ok-push_power.ensures
    ∙ ap (λ (xs : List PowerLine). xs ++ option_to_list (power_line c.line-item.result)) l.invariant
    ∙ sym (filter_map_more power_line c.args.script.now l.line-index c.line-item.result c.loop-line-test.true c.line-item.is)
