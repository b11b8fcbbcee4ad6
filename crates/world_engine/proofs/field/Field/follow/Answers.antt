use Rattle.std.proofs.Common.{◌≡◌, ◌<◌, ℕ, length, Contains, sym, subst, ap, ◌∙◌, arith}
use Rattle.std.specs.List.{slice_get}
use Rattle.std.proofs.lemmas.Option.{same_Some}
use Rattle.std.proofs.lemmas.Result.{on_ok_weaker}
use Rattle.radio_model.specs.Stations.{nodes_of}
use Rattle.air_log.specs.DeviceStates.{DeviceState, settings_of}
use Rattle.world_engine.specs.Fields.{FieldState}
use Rattle.world_engine.specs.FieldParts.{state_of}
use Rattle.world_engine.proofs.FollowedDevices.{device_at, node_in_medium, follows_so}
use Rattle.world_engine.proofs.field.Field.follow.Goals as goal

pub retune-over-requires-clause-node : goal.retune-over-requires-clause-node
retune-over-requires-clause-node g c =
    let w = state_of c.self.inside in
    let below : c.args.place < length w.devices = omega (arith, c.requires.within, ap (λ (f : FieldState). length f.devices) c.self.view_is) in
    let state = c.index-device.result.now in
    let here = device_at w c.args.place c.from.result state c.from.ensures below c.index-device.ensures in
    subst (λ (v : ℕ). Contains (nodes_of w.medium) v) (sym c.node-node.ensures.id) (node_in_medium w c.args.place state c.self.invariant here)

pub returns : goal.returns
returns g c = λ state there.
    let w = state_of c.self.inside in
    let below : c.args.place < length w.devices = omega (arith, c.requires.within, ap (λ (f : FieldState). length f.devices) c.self.view_is) in
    let here = device_at w c.args.place c.from.result c.index-device.result.now c.from.ensures below c.index-device.ensures in
    let is_state : c.index-device.result.now ≡ state =
    same_Some _ _ (sym here ∙ ap (λ (f : FieldState). slice_get f.devices c.args.place) c.self.view_is ∙ there) in
    on_ok_weaker c.log_tuning.result (λ logged.
    follows_so c.args.t c.args.place c.args.before c.settings-now.result c.node-node.result state c.retune-over.result w c.args.self.now c.log_tuning.new.self
    c.retune-over.new.medium (g.Q.Orders.map c.args.orders.now) (g.Q.Orders.map c.reset.new.orders) (g.Q.Orders.map c.reset-2.new.orders)
    (c.node-node.ensures.id ∙ ap (λ (d : DeviceState). d.setup.id) is_state) (c.settings-now.ensures ∙ ap settings_of is_state)
    c.retune-over.ensures c.reset.ensures c.reset-2.ensures c.self.view_is logged)
    c.log_tuning.ensures
