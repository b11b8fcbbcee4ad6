use Rattle.std.proofs.Common.{◌++◌, List, ℕ, flat_map, sym, ◌∙◌, ap, subst}
use Rattle.std.specs.Prelude.{All}
use Rattle.std.proofs.lemmas.List.Elements.{All-append}
use Rattle.std.proofs.lemmas.Grind.{flat_map-append}
use Rattle.bound_report.specs.BoundLines.{finding_line}
use Rattle.bus_bounds.specs.BoundFindings.{findings_of}
use Rattle.bus_bounds.specs.JoinFindings.{join_findings}
use Rattle.bus_bounds.specs.KeptBounds.{AreKept, AreKeptBy, IsOpen}
use Rattle.bus_bounds.specs.declared.finding.Finding.{Finding}
use Rattle.plan_commands.proofs.bounds_answer.bounds_report.Goals as goal

pub returns : goal.returns
returns c =
    let line = finding_line c.args.bytes.now in
    let s = c.args.scenario.now in
    let ratios = c.args.ratios.now.lines in
    let hosts = c.in_ok-of_hosts.ensures in
    let nodes = c.in_ok-of_nodes.ensures in
    let first = c.in_ok-write_findings.ensures ∙ ap (λ (l : List ℕ). l ++ flat_map line c.deref.result.now) c.new-report.ensures.bytes
    ∙ ap (flat_map line) (c.deref.ensures.value ∙ hosts.found) in
    let are_unmet : List Finding → Type 0 = All (IsOpen s ratios) in
    record {
      spelled = c.in_ok-write_findings-2.ensures
          ∙ ap (λ (l : List ℕ). l ++ flat_map line c.deref-2.result.now) first
          ∙ ap (λ (xs : List Finding). flat_map line (findings_of s) ++ flat_map line xs) (c.deref-2.ensures.value ∙ nodes.found)
          ∙ sym (flat_map-append line (findings_of s) (join_findings s ratios));
      kept = subst (AreKept s) hosts.found hosts.kept;
      kept_by = subst (AreKeptBy s ratios) nodes.found nodes.kept;
      unmet = All-append (IsOpen s ratios) (findings_of s) (join_findings s ratios)
          (subst are_unmet hosts.found (hosts.unmet ratios)) (subst are_unmet nodes.found nodes.unmet);
    }
