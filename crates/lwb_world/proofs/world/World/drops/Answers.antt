use Rattle.std.proofs.Common.{◌≡◌, ap, ◌∙◌, List}
use Rattle.world_engine.specs.Worlds.{WorldState}
use Rattle.lwb_world.proofs.ListsOfTheBus.{dropped}
use Rattle.lwb_world.proofs.world.World.drops.Goals as goal

pub returns-clause-bus : goal.returns-clause-bus
returns-clause-bus g c =
    λ left.
    let w = c.args.self.now.0 in
    let is : c.drops.result.now ≡ w.drops = c.drops.ensures ∙ ap (λ (v : WorldState × List g.row.C.Denot). v.0.drops) c.self.view_is in
    is ∙ dropped w left
