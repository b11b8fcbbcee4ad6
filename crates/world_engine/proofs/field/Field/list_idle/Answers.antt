use Rattle.std.proofs.Common.{◌≡◌, ◌++◌, List, Option, filter_map, option_to_list, take, sym, ◌∙◌, ap, arith}
use Rattle.std.proofs.lemmas.List.{append_assoc, take_all}
use Rattle.lwb_base.proofs.Lists.{filter_map_more}
use Rattle.air_log.specs.DeviceStates.{DeviceState}
use Rattle.world_engine.specs.Idling.{idle_now}
use Rattle.air_log.specs.declared.idle.Idle.{Idle}
use Rattle.world_engine.proofs.field.Field.list_idle.Goals as goal

pub loop-device-preserved : goal.loop-device-preserved
loop-device-preserved c =
    let f = c.args.frame in
    let i = c.loop-device.device-index in
    let all = c.deref-device-items.result.now in
    let d : DeviceState = c.device-item.result in
    let base = c.args.idle.now.items in
    c.in_ok-push_some.ensures
    ∙ ap (λ (l : List Idle). l ++ option_to_list c.idle_device.result) c.loop-device.invariant
    ∙ ap (λ (o : Option Idle). (base ++ filter_map (idle_now f) (take i all)) ++ option_to_list o) c.idle_device.ensures
    ∙ append_assoc base _ _
    ∙ ap (λ (l : List Idle). base ++ l) (sym (filter_map_more (idle_now f) all i d c.loop-device-test.true c.device-item.is))

pub returns : goal.returns
returns c =
    let f = c.args.frame in
    let i = c.loop-device.device-index in
    let all = c.deref-device-items.result.now in
    let over = c.loop-device-test.false in
    let same : all ≡ c.args.self.now.devices = c.deref-device-items.ensures.value ∙ ap (λ w. w.devices) c.self.view_is in
    c.loop-device.invariant ∙ ap (λ (l : List DeviceState). c.args.idle.now.items ++ filter_map (idle_now f) l) (take_all i all (omega (arith, over)) ∙ same)
