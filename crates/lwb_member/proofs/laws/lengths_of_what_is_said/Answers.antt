use Rattle.lwb_member.proofs.Lengths.{said_long}
use Rattle.lwb_member.proofs.laws.lengths_of_what_is_said.Goals as goal

pub returns : goal.returns
returns c = said_long
