use Rattle.std.proofs.Common.{◌≡◌, ◌<◌, ℕ, length, get_or, Contains, Some, None, Option, refl, sym, ◌∙◌, ap, subst, arith}
use Rattle.std.specs.Prelude.{slice_get}
use Rattle.std.proofs.lemmas.Option.{slice_get_read}
use Rattle.std.proofs.lemmas.Result.{on_ok_weaker}
use Rattle.radio_model.specs.declared.tuning.Past.{Past}
use Rattle.radio_model.specs.declared.tuning.RadioTuning.{RadioTuning}
use Rattle.radio_model.specs.Stations.{nodes_of, station_of, tuning_at, tuning_after, over_after}
use Rattle.air_log.specs.DeviceStates.{DeviceState}
use Rattle.world_engine.specs.Fields.{FieldState}
use Rattle.world_engine.specs.FieldParts.{state_of}
use Rattle.world_engine.proofs.FieldClosing.{with_entry}
use Rattle.world_engine.proofs.FollowedDevices.{node_in_medium}
use Rattle.world_engine.proofs.field.Field.close_one.Goals as goal

-- the device that is read
read_at : (w old : FieldState) (p : ℕ) (d : DeviceState) → w ≡ old → p < length old.devices → d ≡ get_or w.devices p d → slice_get w.devices p ≡ Some d
read_at w old p d same within is =
    slice_get_read w.devices (length w.devices) p d refl (omega (arith, within, ap (λ (f : FieldState). length f.devices) same)) is

both_logged : (t : ℕ) (old first new : FieldState) (u v : ℕ) (k after : RadioTuning) (over : Option Past) → u ≡ v
    → over ≡ over_after None t k → after ≡ tuning_after None t k → first ≡ with_entry u over old → new ≡ with_entry u after.last first
    → new ≡ with_entry v (tuning_after None t k).last (with_entry v (over_after None t k) old)
both_logged t old first new u v k after over node is_over is_after one two =
    two ∙ ap (with_entry u after.last) one
    ∙ ap (λ (n : ℕ). with_entry n after.last (with_entry n over old)) node
    ∙ ap (λ (o : Option Past). with_entry v after.last (with_entry v o old)) is_over
    ∙ ap (λ (x : RadioTuning). with_entry v x.last (with_entry v (over_after None t k) old)) is_after

pub tuning-tuning-requires : goal.tuning-tuning-requires
tuning-tuning-requires c =
    let w = state_of c.self.inside in
    let d = c.index.result.now in
    subst (λ (v : ℕ). Contains (nodes_of w.medium) v) (sym c.node-node.ensures.id)
    (node_in_medium w c.args.place d c.self.invariant (read_at w c.args.self.now c.args.place d c.self.view_is c.requires c.index.ensures))

pub returns : goal.returns
returns c =
    let w = state_of c.self.inside in
    let old = c.args.self.now in
    let d = c.index.result.now in
    let k : RadioTuning = c.tuning-tuning.result in
    let node = c.node-node.ensures.id in
    on_ok_weaker c.log_tuning-2.result (λ logged. record {
      state = d;
      there = ap (λ (f : FieldState). slice_get f.devices c.args.place) (sym c.self.view_is)
          ∙ read_at w old c.args.place d c.self.view_is c.requires c.index.ensures;
      core = c.node-node.ensures.core;
      tuning = k;
      stands = c.tuning-tuning.ensures ∙ ap (λ (v : ℕ). tuning_at (station_of w.medium v)) node
          ∙ ap (λ (f : FieldState). tuning_at (station_of f.medium d.setup.id)) c.self.view_is;
      is = both_logged c.args.t old c.log_tuning.new.self c.log_tuning-2.new.self c.node-node.result d.setup.id k c.tune-over.new.self c.tune-over.result
          node c.tune-over.ensures.over c.tune-over.ensures.after c.in_ok-log_tuning.ensures logged;
    }) c.log_tuning-2.ensures
