use Rattle.run_commands.proofs.bus_answer.bus_answer.Goals as goal

pub returns-in-Ok : goal.returns-in-Ok
returns-in-Ok c = c.bus_of.ensures c.args.bytes.now c.in-Ok.ensures
