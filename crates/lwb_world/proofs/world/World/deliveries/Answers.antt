use Rattle.std.proofs.Common.{◌≡◌, ap, ◌∙◌, List}
use Rattle.world_engine.specs.Worlds.{WorldState}
use Rattle.lwb_world.proofs.ListsOfTheBus.{delivered}
use Rattle.lwb_world.proofs.world.World.deliveries.Goals as goal

pub returns-clause-bus : goal.returns-clause-bus
returns-clause-bus g c =
    λ left.
    let w = c.args.self.now.0 in
    let is : c.deliveries.result.now ≡ w.deliveries = c.deliveries.ensures ∙ ap (λ (v : WorldState × List g.row.C.Denot). v.0.deliveries) c.self.view_is in
    is ∙ delivered w left
