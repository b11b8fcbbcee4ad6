use Rattle.std.proofs.Common.{◌≡◌, List, IfOk, map, ap, ◌∙◌, subst}
use Rattle.radio_model.specs.OnAir.{Hearing}
use Rattle.air_log.specs.declared.entry.Entry.{Entry}
use Rattle.air_log.specs.Lawful.{by_end, hearings_by, reception_of}
use Rattle.air_log.specs.TrailsTold.{trail_told}
use Rattle.air_log.proofs.trails.trail_of.Goals as goal

pub returns : goal.returns
returns g c =
    let own = c.in_ok-heard.ensures ∙ ap (λ (air : List Entry). hearings_by air c.args.node) c.entries.ensures in
    subst (λ (hs : List Hearing). IfOk c.trail_over.result (λ t. t ≡ trail_told c.args.s.now c.args.node (g.C.DriftClock.readings c.args.clock.now)
    (map reception_of (by_end hs)))) own c.trail_over.ensures
