use Rattle.std.proofs.Common.{◌≡◌, ◌++◌, ◌∷◌, [], List, ℕ, codes, sym, ◌∙◌, ap, string_bytes}
use Rattle.scenario_text.specs.ScenarioParts.{ScenarioParts}
use Rattle.text_writers.specs.Lines.{line_text, numbered}
use Rattle.bus_report.specs.BusReport.{cost_lines}
use Rattle.scenario_text.specs.OverLines.{over}
use Rattle.fate_report.specs.SampleLines.{streams_text, times_text}
use Rattle.plan_commands.proofs.SeedsInTurn.{four_parts}
use Rattle.plan_commands.proofs.seed_text.run_text.Goals as goal

pub returns : goal.returns
returns c =
    λ t run.
    let s : ScenarioParts = c.args.scenario.now in
    let d : ScenarioParts = over s t in
    let head : List ℕ = line_text (numbered (codes "seed") (c.args.seed ∷ [])) in
    let streams : List ℕ = streams_text d in
    let times : List ℕ = times_text d in
    let line : string_bytes c.write_line.new.text ≡ head = c.in_ok-write_line.ensures ∙ ap (λ (l : List ℕ). l ++ head) c.new-text.ensures.bytes in
    let first : string_bytes c.write_streams.new.text ≡ string_bytes c.write_line.new.text ++ streams = c.in_ok-write_streams.ensures t run in
    let second : string_bytes c.write_times.new.text ≡ string_bytes c.write_streams.new.text ++ times = c.in_ok-write_times.ensures t run in
    c.in_ok-write_costs.ensures d run (sym c.nodes.ensures.value)
    ∙ ap (λ (l : List ℕ). l ++ cost_lines d)
    (second ∙ ap (λ (l : List ℕ). l ++ times) (first ∙ ap (λ (l : List ℕ). l ++ streams) line))
    ∙ four_parts head streams times (cost_lines d)
