use Rattle.std.proofs.Common.{ℕ, length, replicate, List, ap, ◌∙◌}
use Rattle.event_calendar.specs.Orders.{nothing_due}
use Rattle.world_engine.specs.Worlds.{WorldState}
use Rattle.lwb_world.proofs.world.World.run.Goals as goal

pub run_with-requires-clause-empty : goal.run_with-requires-clause-empty
run_with-requires-clause-empty g c =
    let same = ap (λ (w : WorldState × List g.row.C.Denot). length w.0.scenario.nodes) c.self.view_is in
    c.in_ok-calendar.ensures ∙ ap (λ (n : ℕ). replicate n nothing_due) (c.places.ensures.value ∙ same)
