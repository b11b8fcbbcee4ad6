use Rattle.std.proofs.Common.{map, string_bytes}
use Rattle.run_commands.proofs.ToldAnswers.{told}
use Rattle.run_commands.proofs.program.CommandProgramCommand.answer.Goals as goal

pub answer-requires-clause-asked : goal.answer-requires-clause-asked
answer-requires-clause-asked c = (map string_bytes c.requires.asked.0, c.requires.asked.1)

pub returns : goal.returns
returns c = told c.args.self c.args.bytes.now c.answer.result c.answer.ensures
