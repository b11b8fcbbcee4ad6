use Rattle.std.proofs.Common.{◌-◌, rules}
use Rattle.std.proofs.lemmas.List.Sorted.{answers_always}
use Rattle.std.specs.List.Sorted.{ties}
use Rattle.air_log.specs.Deliveries.{delivery_comes_before}
use Rattle.air_log.proofs.DeliveryOrder.{place_of}
use Rattle.world_engine.proofs.SortedParts.{part_keeps}
use Rattle.world_engine.proofs.deliveries.sort_run.Goals as goal

pub returns-clause-ties : goal.returns-clause-ties
returns-clause-ties c =
    λ z. part_keeps (ties delivery_comes_before z) c.args.deliveries.now c.sort_by_key.new.self c.args.first (c.args.past - c.args.first)
    (c.sort_by_key.ensures.stable place_of (answers_always _ _ _ (λ f a r g h. search rules)) z)
