use Rattle.run_commands.proofs.times_answer.times_answer.Goals as goal

pub returns-in-Ok : goal.returns-in-Ok
returns-in-Ok c = c.times_of.ensures c.args.bytes.now c.in-Ok.ensures
