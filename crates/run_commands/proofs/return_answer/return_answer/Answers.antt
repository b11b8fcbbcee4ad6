use Rattle.run_commands.proofs.return_answer.return_answer.Goals as goal

pub returns-in-Ok : goal.returns-in-Ok
returns-in-Ok c = c.return_of.ensures c.args.bytes.now c.in-Ok.ensures
