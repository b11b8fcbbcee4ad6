use Rattle.run_commands.proofs.OwnersDiffer.{owners_differ}
use Rattle.run_commands.proofs.deadline_answer.deadline_answer.Goals as goal

pub deadlines_of-requires : goal.deadlines_of-requires
deadlines_of-requires c = owners_differ c.args.bytes.now c.in-Ok.text c.in-Ok.ensures

pub returns-in-Ok : goal.returns-in-Ok
returns-in-Ok c = c.deadlines_of.ensures c.args.bytes.now c.in-Ok.ensures
