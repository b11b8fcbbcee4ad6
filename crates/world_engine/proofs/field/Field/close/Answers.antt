use Rattle.std.proofs.Common.{◌≡◌, ◌∙◌, length, subst, ap, arith}
use Rattle.world_engine.specs.Fields.{FieldState, IsField}
use Rattle.world_engine.proofs.FieldClosing.{closed_none, closed_more, all_closed}
use Rattle.world_engine.proofs.field.Field.close.Goals as goal

pub loop-place-init : goal.loop-place-init
loop-place-init c = closed_none c.args.t c.args.self.now

pub close_one-requires : goal.close_one-requires
close_one-requires c =
    let old = c.args.self.now in
    let below = c.loop-place-test.true in
    let long : length c.as_slice-place-end.result.now ≡ length old.devices = ap length c.as_slice-place-end.ensures.value
    ∙ ap (λ (w : FieldState). length w.devices) c.self.view_is in
    omega (arith, below, long, ap length c.loop-place.invariant.devices)

pub loop-place-preserved : goal.loop-place-preserved
loop-place-preserved c = closed_more c.args.t c.loop-place.place c.args.self.now c.loop-place.self c.close_one.new.self
    (subst IsField c.self.view_is c.self.invariant) c.loop-place.invariant c.in_ok-close_one.ensures

pub returns : goal.returns
returns c = λ due shown.
    let old = c.args.self.now in
    let long : length c.as_slice-place-end.result.now ≡ length old.devices = ap length c.as_slice-place-end.ensures.value
    ∙ ap (λ (w : FieldState). length w.devices) c.self.view_is in
    let over = c.loop-place-test.false in
    let within = c.loop-place.auto.place-end in
    all_closed c.args.t c.loop-place.place old due c.loop-place.self c.loop-place.invariant (omega (arith, over, within, long))
