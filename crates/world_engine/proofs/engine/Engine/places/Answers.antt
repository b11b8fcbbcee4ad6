use Rattle.std.proofs.Common.{◌≡◌, ◌∙◌, false, length, List, ap}
use Rattle.std.proofs.lemmas.List.{length-map}
use Rattle.world_engine.specs.FieldSteps.{first_device}
use Rattle.world_engine.specs.Worlds.{WorldState}
use Rattle.world_engine.proofs.engine.Engine.places.Goals as goal

pub returns-clause-value : goal.returns-clause-value
returns-clause-value g c =
    let s = c.self.inside.scenario in
    let not_yet : c.self.inside.ran ≡ false = ap (λ (w : WorldState × List g.row.C.Denot). w.0.ran) c.self.view_is ∙ c.requires in
    c.places.ensures.value ∙ ap length (c.self.invariant.first not_yet).0.devices ∙ length-map s.nodes (first_device s)
    ∙ ap (λ (w : WorldState × List g.row.C.Denot). length w.0.scenario.nodes) c.self.view_is
