use Rattle.run_commands.proofs.flood_answer.flood_answer.Goals as goal

pub returns-in-Ok : goal.returns-in-Ok
returns-in-Ok c = c.flood_of.ensures c.args.bytes.now c.in-Ok.ensures
