use Rattle.std.proofs.Common.{◌&&◌, not, ◌∙◌, sym}
use Rattle.radio_model.specs.Meetings.{comes_in_time}
use Rattle.radio_model.specs.Receptions.{arrives, repeats}
use Rattle.radio_model.proofs.ReceiverMasks.{opened, shut}
use Rattle.radio_model.proofs.receivers.late_by.Goals as goal

pub returns-then-is_late : goal.returns-then-is_late
returns-then-is_late c =
    λ lines nodes is.
    let p = c.args.profile.now in
    let x = c.args.x.now in
    let y = c.args.y.now in
    opened nodes (repeats x y && not (comes_in_time p x y)) (λ v. arrives p lines v y) c.args.reach.now.to (sym c.is_late.ensures ∙ c.if-is_late.true) is

pub returns-else-is_late : goal.returns-else-is_late
returns-else-is_late c =
    λ lines nodes is.
    let p = c.args.profile.now in
    let x = c.args.x.now in
    let y = c.args.y.now in
    shut nodes (repeats x y && not (comes_in_time p x y)) (λ v. arrives p lines v y) (sym c.is_late.ensures ∙ c.if-is_late.false)
