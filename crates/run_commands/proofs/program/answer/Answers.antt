use Rattle.run_commands.proofs.program.answer.Goals as goal

pub returns-in-Demo : goal.returns-in-Demo
returns-in-Demo c = rw c.in-Demo.is (c.demo_answer.ensures c.args.bytes.now)
