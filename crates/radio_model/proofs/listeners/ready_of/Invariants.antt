use Rattle.std.proofs.Common.{get_or}
use Rattle.radio_model.specs.Meetings.{is_ready}
use Rattle.radio_model.specs.declared.station.Station.{Station}
use Rattle.radio_model.proofs.Those.{Picks}
use Rattle.radio_model.proofs.listeners.ready_of.Given as goal

abbrev pub invariant-loop-rest : goal.invariant-loop-rest
invariant-loop-rest l = (d : Station) → Picks (λ k. is_ready l.x (get_or l.stations k d)) l.fn.places l.ready l.rest

abbrev pub decreases-loop-rest : goal.decreases-loop-rest
decreases-loop-rest l = l.rest
