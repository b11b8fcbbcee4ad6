use Rattle.run_commands.proofs.log_answer.log_answer.Goals as goal

pub returns-in-Ok : goal.returns-in-Ok
returns-in-Ok c = c.answer_of.ensures c.args.bytes.now c.in-Ok.ensures
