use Rattle.std.proofs.Common.{◌≡◌, ◌==◌, filter, not, rules}
use Rattle.std.proofs.lemmas.Map.Made.{filter_same_pairs}
use Rattle.packet_fates.specs.declared.emptyings.Emptyings.{Emptyings}
use Rattle.packet_fates.proofs.QueuesEmptied.{off_next}
use Rattle.packet_fates.proofs.emptyings.Emptyings.note_off.Goals as goal

pub returns : goal.returns
returns c =
    let after : Emptyings = record { offs = c.insert.new.self; leaves = c.retain.new.self } in
    let kept : c.retain.new.self.entries ≡ filter (λ e. not (e.0.0 == c.args.node)) c.args.self.now.leaves.entries =
    filter_same_pairs _ (λ e. not (e.0.0 == c.args.node)) _ (λ k v b w f t. search rules) _ _ c.retain.ensures.filtered in
    off_next c.args.self.now after c.args.node c.args.frame kept c.in_ok-insert.ensures.updates.0
