use Rattle.std.proofs.Common.{◌≡◌, ◌∙◌, ap, List, ℕ, map, filter_map, sum_by}
use Rattle.bus_terms.specs.Flooding.{STEPS, moment}
use Rattle.bus_terms.specs.FloodOfText.{ids, setting, outcome}
use Rattle.bus_rules.specs.FloodOutcome.{Outcome}
use Rattle.plain_bus.specs.FloodMasks.{station_at, accepted_from}
use Rattle.plain_bus.specs.declared.station.Station.{Station}
use Rattle.plain_bus.proofs.TextFloods.{acceptances_read, sendings_read}
use Rattle.plain_bus.proofs.accepting.accepts.Goals as goal

pub returns : goal.returns
returns c =
    let f = c.args.f.now in
    let t = c.trace.result.now in
    let xs = c.as_slice-stations.result.now in
    let stations : xs ≡ map (station_at (moment (setting f) STEPS)) (ids f.nodes) =
    c.as_slice-stations.ensures.value ∙ c.flooded-end.ensures.each (setting f) (c.flood_of.ensures t c.trace.ensures.value c.trace.ensures.sealed)
    ∙ ap (λ (ns : List ℕ). map (station_at (moment (setting f) STEPS)) ns) c.trace.ensures.sealed in
    let accepts : c.in_ok-accepts.accepts.items ≡ (outcome f).accepts =
    c.in_ok-accepts.ensures ∙ ap (λ (v : ℕ). filter_map (accepted_from v) xs) c.start.ensures.value
    ∙ ap (λ (l : List Station). filter_map (accepted_from f.start) l) stations ∙ acceptances_read f in
    let sent : c.sendings-sent.result ≡ (outcome f).sent =
    c.sendings-sent.ensures ∙ ap (λ (l : List Station). sum_by (λ (x : Station). x.times) l) stations ∙ sendings_read f in
    let of_accepts : List (ℕ × ℕ) → Outcome = λ a. record { accepts = a; sent = c.sendings-sent.result } in
    let of_sent : ℕ → Outcome = λ n. record { accepts = (outcome f).accepts; sent = n } in
    c.new.ensures ∙ ap of_accepts accepts ∙ ap of_sent sent
