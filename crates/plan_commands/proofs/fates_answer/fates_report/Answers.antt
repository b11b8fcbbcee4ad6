use Rattle.std.proofs.Common.{◌++◌, List, ℕ, flat_map, ◌∙◌, ap}
use Rattle.fate_report.specs.FateLines.{fate_line}
use Rattle.plan_commands.proofs.fates_answer.fates_report.Goals as goal

pub returns : goal.returns
returns c =
    c.in_ok-write_fates.ensures
    ∙ ap (λ (l : List ℕ). l ++ flat_map fate_line c.deref.result.now) c.new-report.ensures.bytes
    ∙ ap (flat_map fate_line) (c.deref.ensures.value ∙ c.in_ok-became.ensures)
