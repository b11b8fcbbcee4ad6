use Rattle.std.proofs.Common.{refl}
use Rattle.packet_fates.specs.declared.emptyings.Emptyings.{Emptyings}
use Rattle.packet_fates.proofs.QueuesEmptied.{left_next}
use Rattle.packet_fates.proofs.emptyings.Emptyings.note_leave.Goals as goal

pub returns : goal.returns
returns c =
    let after : Emptyings = record { offs = c.args.self.now.offs; leaves = c.insert.new.self } in
    left_next c.args.self.now after c.args.node c.args.stream c.args.frame c.in_ok-insert.ensures.updates.0 refl
