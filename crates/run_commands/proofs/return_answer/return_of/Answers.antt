use Rattle.std.proofs.Common.{List, string_bytes, subst, sym}
use Rattle.air_log.specs.declared.entry.Entry.{Entry}
use Rattle.run_report.specs.RunsTold.{IsOfRun}
use Rattle.run_commands.specs.ReturnReport.{return_report}
use Rattle.run_commands.proofs.ReturnedRuns.{returned_run}
use Rattle.run_commands.proofs.return_answer.return_of.Goals as goal

pub returns : goal.returns
returns c =
    λ b read.
    let x = c.in_ok-returned.returned in
    let text = string_bytes c.in_ok-report.report in
    let followed = c.in_ok-returned.ensures in (
      c.args.s.now,
      read,
      record {
        returned = x;
        is = followed.returned;
        said = c.in_ok-report.ensures.said;
        log = c.into_air.ensures;
        of_run = subst (λ (air : List Entry). IsOfRun (return_report x.returns x.counts) x.scenario air text) (sym c.into_air.ensures)
            (returned_run x.scenario c.in_ok-report.ensures.said x.air followed.returned.lawful (return_report x.returns x.counts) text
            c.in_ok-report.ensures.bytes);
        probed = followed.probed;
        quiet = followed.quiet;
      },
    )
