use Rattle.std.proofs.Common.{true, sym, subst}
use Rattle.lwb_member.specs.Members.{Member}
use Rattle.lwb_member.specs.Planning.{IsEarly}
use Rattle.lwb_member.proofs.KeptTables.{slot_early}
use Rattle.lwb_member.proofs.member.Member.close.Goals as goal

pub returns-in-Some-Data-clause-early : goal.returns-in-Some-Data-clause-early
returns-in-Some-Data-clause-early c =
    subst (λ (m : Member). IsEarly c.args.frame m.core.table) (sym c.hear_owner.ensures)
    (slot_early c.args.frame c.args.part true c.args.self.now.core c.requires.early)
