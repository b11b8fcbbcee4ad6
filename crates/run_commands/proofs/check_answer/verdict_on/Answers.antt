use Rattle.run_commands.proofs.CheckedLogs.{check_report}
use Rattle.run_commands.proofs.check_answer.verdict_on.Goals as goal

pub returns : goal.returns
returns c =
    λ b read. (
      c.args.s.now,
      c.args.log.now,
      read,
      c.new.ensures,
      check_report c.args.s.now c.requires c.args.log.now c.in_ok-verdict.verdict c.in_ok-verdict.ensures.verdict _ c.in_ok-report.ensures,
    )
