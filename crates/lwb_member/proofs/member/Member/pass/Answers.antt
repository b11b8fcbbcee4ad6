use Rattle.std.proofs.Common.{sym, subst}
use Rattle.lwb_member.specs.Members.{Member}
use Rattle.lwb_member.specs.Planning.{IsEarly}
use Rattle.lwb_member.proofs.KeptTables.{slot_early}
use Rattle.lwb_member.proofs.member.Member.pass.Goals as goal

pub returns-clause-early : goal.returns-clause-early
returns-clause-early c =
    let stays = slot_early c.args.frame c.args.part _ c.args.self.now.core c.requires.early in
    subst (λ (m : Member). IsEarly c.args.frame m.core.table) (sym c.hear_owner.ensures) stays
