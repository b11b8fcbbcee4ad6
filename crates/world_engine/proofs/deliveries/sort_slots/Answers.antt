use Rattle.std.proofs.Common.{◌∙◌, refl}
use Rattle.world_engine.proofs.deliveries.sort_slots.Goals as goal

pub loop-first-init : goal.loop-first-init
loop-first-init c = record { ties = λ z. refl; many = refl }

pub loop-first-preserved : goal.loop-first-preserved
loop-first-preserved c = record {
  ties = λ z. c.in_ok-sort_run.ensures.ties z ∙ c.loop-first.invariant.ties z;
  many = c.sort_run.ensures.many ∙ c.loop-first.invariant.many;
}
