use Rattle.std.proofs.Common.{string_bytes, subst, sym}
use Rattle.scenario_text.specs.ScenarioParts.{ScenarioParts}
use Rattle.run_report.specs.RunReport.{run_report}
use Rattle.run_report.specs.RunsLeft.{IsLeft}
use Rattle.run_report.specs.RunsTold.{IsOfRun}
use Rattle.run_report.proofs.run_text.run_report.Goals as goal

pub returns : goal.returns
returns g c =
    let left = c.in_ok-run.ensures in
    let told : IsOfRun run_report c.new.result c.in_ok-run.run'.air (string_bytes c.in_ok-text.text) =
    let own = subst (λ (x : ScenarioParts). IsLeft x c.in_ok-run.run') (sym c.new.ensures) left in
    record { law = own.lawful; is = c.in_ok-text.ensures; bus = own.bus } in
    subst (λ (x : ScenarioParts). IsOfRun run_report x c.in_ok-run.run'.air (string_bytes c.in_ok-text.text)) c.new.ensures told
