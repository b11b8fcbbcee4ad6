use Rattle.std.proofs.Common.{◌≡◌, ◌∙◌, ◌++◌, ◌∷◌, [], List, ap, sym, rules, arith}
use Rattle.radio_model.specs.Stations.{fresh}
use Rattle.radio_model.specs.declared.station.Station.{Station}
use Rattle.radio_model.proofs.Places.{stations_more}
use Rattle.radio_model.proofs.medium.new_stations.Goals as goal

pub loop-i-preserved : goal.loop-i-preserved
loop-i-preserved c =
    let pushed : c.push.new.self.items ≡ c.loop-i.stations.items ++ c.in_ok-station.station ∷ [] = search rules in
    pushed
    ∙ ap (λ (st : Station). c.loop-i.stations.items ++ st ∷ []) c.in_ok-station.ensures
    ∙ ap (λ (l : List Station). l ++ fresh c.index-nodes-i.result c.loop-i.i ∷ []) c.loop-i.invariant
    ∙ sym (stations_more c.args.nodes.now c.loop-i.i c.index-nodes-i.result (omega arith) c.index-nodes-i.is)
