use Rattle.std.proofs.Common.{◌≡◌, ◌<◌, ℕ, List, Bool, true, false, length, get_or, if◌then◌else◌, refl, ◌∙◌, ap, arith}
use mir.Val.{bool_byte}
use Rattle.air_log.specs.DeviceStates.{DeviceState}
use Rattle.world_engine.specs.Counting.{scans_now}
use Rattle.world_engine.proofs.CountedPlaces.{one_counted, all_counted}
use Rattle.world_engine.proofs.field.Field.count_scanners.Goals as goal

-- a Bool as a number
as_number : (b : Bool) → bool_byte b ≡ (if b then 1 else 0)
as_number true = refl
as_number false = refl

pub loop-place-preserved : goal.loop-place-preserved
loop-place-preserved c =
    let devices = c.args.self.now.devices in
    let i = c.loop-place.place in
    let same : c.self.inside.devices.items ≡ devices = ap (λ w. w.devices) c.self.view_is in
    let below : i < length devices = omega (arith, c.loop-place-test.true, ap length c.as_slice-place-end.ensures.value, ap length same) in
    let read : c.index.result.now ≡ get_or devices i c.index.result.now = c.index.ensures ∙ ap (λ (l : List DeviceState). get_or l i c.index.result.now) same in
    let number : Bool → ℕ = λ b. if b then 1 else 0 in
    let more : c.from.result ≡ scans_now c.index.result.now = c.from.ensures ∙ as_number c.scans.result ∙ ap number c.scans.ensures in
    one_counted devices i c.args.scanned.now.items c.loop-place.scanned.items c.loop-place.invariant c.requires.places below c.index.result.now
    c.index_mut.result.now c.from.result _ read c.index_mut.ensures.value more refl

pub returns : goal.returns
returns c =
    let devices = c.args.self.now.devices in
    let same : c.self.inside.devices.items ≡ devices = ap (λ w. w.devices) c.self.view_is in
    all_counted devices c.loop-place.place c.args.scanned.now.items c.loop-place.scanned.items
    (omega (arith, c.loop-place-test.false, ap length c.as_slice-place-end.ensures.value, ap length same)) c.loop-place.invariant
