use Rattle.plan_commands.specs.declared.command.Command.TheVariants as asked
use Rattle.plan_commands.proofs.DrawnLosses.{fault_after_last}
use Rattle.plan_commands.proofs.draw_answer.network_answer.Goals as goal

-- the line after the last, where there is no text
pub returns-in-Err : goal.returns-in-Err
returns-in-Err c =
    c.fault_answer.ensures (asked.Draw c.args.seed) c.args.bytes.now
    (fault_after_last _ _ c.args.seed c.args.bytes.now c.line_count.result c.in_ok-text.field-0 c.in-Err.kind c.requires.network c.in-Err.is
    c.in_ok-text.ensures.fault c.line_count.ensures.count)
