use Rattle.std.proofs.Common.{◌∙◌, ap, sym}
use Rattle.radio_model.specs.Stations.{MediumState, tuning_at, station_of}
use Rattle.radio_model.proofs.Places.{found}
use Rattle.radio_model.proofs.PlacedStations.{found_station}
use Rattle.radio_model.proofs.medium.Medium.tuning.Goals as goal

pub returns : goal.returns
returns c =
    let st = c.index-station.result.now in
    let at = found_station c.self.inside c.args.self.now c.deref.result.now c.args.node c.place_of-place.result st c.self.view_is
    c.deref.ensures.value c.self.invariant.1 c.requires c.place_of-place.ensures c.index-station.ensures in
    ap tuning_at (sym (found c.self.inside.stations.items c.args.node c.place_of-place.result st c.self.invariant.0.nodes.ascending at.below at.at at.node))
    ∙ ap (λ (s : MediumState). tuning_at (station_of s c.args.node)) c.self.view_is
