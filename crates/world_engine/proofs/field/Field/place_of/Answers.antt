use Rattle.std.proofs.Common.{◌≡◌, ℕ, List, map, subst, sym, ◌∙◌, ap, arith, Contains}
use Rattle.air_log.specs.DeviceStates.{DeviceState}
use Rattle.world_engine.specs.Fields.{id_of, ids_of}
use Rattle.world_engine.proofs.DevicesOfNodes.{somewhere}
use Rattle.world_engine.proofs.field.Field.place_of.Goals as goal

pub unreachable-requires : goal.unreachable-requires
unreachable-requires c =
    let ds = c.deref-device-items.result.now in
    let same : ids_of c.args.self.now ≡ map id_of ds = ap ids_of (sym c.self.view_is)
    ∙ ap (λ (l : List DeviceState). map id_of l) (sym c.deref-device-items.ensures.value) in
    let test = c.loop-place-test.false in
    somewhere ds c.args.node (subst (λ (l : List ℕ). Contains l c.args.node) same c.requires) (λ k d below. c.loop-place.invariant k d (omega arith))
