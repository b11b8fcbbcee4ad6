use Rattle.std.proofs.Common.{◌≡◌, ◌+◌, ◌<◌, ◌++◌, ◌∷◌, [], length, get_or, take, set, sym, ◌∙◌, ap, arith}
use Rattle.std.proofs.lemmas.List.{take_more}
use Rattle.scenario_text.specs.declared.lines.RateLine.{RateLine}
use Rattle.scenario_clocks.specs.StatedClocks.{rate_entry_of_line}
use Rattle.scenario_clocks.specs.NodeRates.{AreRatesOf}
use Rattle.scenario_clocks.proofs.NodeRates.{added_rate}
use Rattle.scenario_clocks.proofs.clock_lines.rates_by_id.Goals as goal

pub loop-rate-preserved : goal.loop-rate-preserved
loop-rate-preserved c =
    let rates = c.args.rates.now in
    let i = c.loop-rate.rate-index in
    let rate = c.rate-item.result in
    let below : i < length rates = omega arith in
    let more : take (i + 1) rates ≡ take i rates ++ rate ∷ [] =
    take_more rates i rate below ∙ ap (λ (r : RateLine). take i rates ++ r ∷ []) (sym c.rate-item.is) in
    let added : AreRatesOf (take i rates ++ rate ∷ [])
    (set c.loop-rate.lists.items rate.node (get_or c.loop-rate.lists.items rate.node [] ++ rate_entry_of_line rate ∷ [])) =
    added_rate (take i rates) rate c.loop-rate.lists.items c.loop-rate.invariant c.add_rate.ensures.range in
    let held : c.add_rate.new.lists.items ≡ set c.loop-rate.lists.items rate.node (get_or c.loop-rate.lists.items rate.node [] ++ rate_entry_of_line rate
    ∷ []) =
    c.in_ok-add_rate.ensures.added in
    rw (more, held) added
