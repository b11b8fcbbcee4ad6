use Rattle.std.proofs.Common.{◌&&◌, not, ◌∙◌, sym}
use Rattle.std.specs.Str.{bytes_eq}
use Rattle.radio_model.specs.Receptions.{arrives, meets_on}
use Rattle.radio_model.proofs.ReceiverMasks.{opened, shut}
use Rattle.radio_model.proofs.receivers.mixed_by.Goals as goal

pub returns-then-is_other : goal.returns-then-is_other
returns-then-is_other c =
    λ p lines nodes is.
    let x = c.args.x.now in
    let y = c.args.y.now in
    opened nodes (meets_on x y && not (bytes_eq y.packet x.packet)) (λ v. arrives p lines v y) c.args.reach.now.to
    (sym c.is_other.ensures ∙ c.if-is_other.true) is

pub returns-else-is_other : goal.returns-else-is_other
returns-else-is_other c =
    λ p lines nodes is.
    let x = c.args.x.now in
    let y = c.args.y.now in
    shut nodes (meets_on x y && not (bytes_eq y.packet x.packet)) (λ v. arrives p lines v y) (sym c.is_other.ensures ∙ c.if-is_other.false)
