use Rattle.plan_commands.proofs.ToldAnswers.{told}
use Rattle.plan_commands.proofs.program.CommandProgramCommand.answer.Goals as goal

pub returns : goal.returns
returns c = told c.args.self c.args.bytes.now c.answer.result c.answer.ensures
