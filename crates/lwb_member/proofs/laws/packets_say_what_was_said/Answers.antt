use Rattle.lwb_member.proofs.Told.{told}
use Rattle.lwb_member.proofs.laws.packets_say_what_was_said.Goals as goal

pub returns : goal.returns
returns c = told
