use Rattle.run_commands.proofs.demo_answer.demo_answer.Goals as goal

pub returns : goal.returns
returns c = λ b. c.summary_of.ensures c.args.seed c.args.nodes c.args.frames b c.in_ok-scenario.ensures
