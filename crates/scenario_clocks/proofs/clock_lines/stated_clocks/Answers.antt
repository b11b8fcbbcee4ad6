use Rattle.std.proofs.Common.{◌≡◌, ℕ, ℤ, ◌+◌, ◌<◌, ◌^◌, ◌++◌, ◌∷◌, [], All, List, length, get_or, take, sym, ◌∙◌, ap, subst, arith, rules}
use Rattle.std.proofs.lemmas.List.{take_more, take_all}
use Rattle.tick_clock.specs.ClockReadings.{segment_clock_reads}
use Rattle.tick_clock.specs.Rates.{segment_reading, wild_at, unordered_at}
use Rattle.scenario_text.specs.declared.lines.NodeLine.{NodeLine}
use Rattle.scenario_text.specs.declared.lines.RateLine.{RateLine}
use Rattle.scenario_clocks.specs.StatedClocks.{rates_of}
use Rattle.scenario_clocks.specs.NodeRates.{AreRatesOf, AreClocks}
use Rattle.scenario_clocks.proofs.NodeRates.{early_rates, none_wild, none_late, clock_more, as_many, read_as_stated, ids_in_range}
use Rattle.scenario_clocks.proofs.clock_lines.stated_clocks.Goals as goal

rates_are : (all : List RateLine) (lists held : List (List (ℕ × ℤ))) (node : ℕ) (got : List (ℕ × ℤ)) → AreRatesOf all held → lists ≡ held
    → got ≡ get_or lists node [] → got ≡ rates_of all node
rates_are all lists held node got are is at = at ∙ ap (λ (l : List (List (ℕ × ℤ))). get_or l node []) is ∙ are.each node

pub clock_of-requires-clause-starts : goal.clock_of-requires-clause-starts
clock_of-requires-clause-starts c =
    let all = c.args.rates.now in
    let v = c.line-item.result.node in
    let is = rates_are all c.deref.result.now c.in_ok-rates.rates.items v c.rates_of.result.now c.in_ok-rates.ensures c.deref.ensures.value
    c.rates_of.ensures.value in
    subst (λ (l : List (ℕ × ℤ)). All (λ r. r.0 < 2 ^ 47) l) (sym is) (early_rates v all c.requires.early)

pub clock_of-requires-clause-small : goal.clock_of-requires-clause-small
clock_of-requires-clause-small c =
    let all = c.args.rates.now in
    let v = c.line-item.result.node in
    let is = rates_are all c.deref.result.now c.in_ok-rates.rates.items v c.rates_of.result.now c.in_ok-rates.ensures c.deref.ensures.value
    c.rates_of.ensures.value in
    ap wild_at is ∙ none_wild v all c.requires.small

pub clock_of-requires-clause-order : goal.clock_of-requires-clause-order
clock_of-requires-clause-order c =
    let all = c.args.rates.now in
    let v = c.line-item.result.node in
    let is = rates_are all c.deref.result.now c.in_ok-rates.rates.items v c.rates_of.result.now c.in_ok-rates.ensures c.deref.ensures.value
    c.rates_of.ensures.value in
    ap unordered_at is ∙ none_late v all (c.requires.ascend v)

pub loop-line-preserved : goal.loop-line-preserved
loop-line-preserved c =
    let all = c.args.rates.now in
    let nodes = c.args.nodes.now in
    let i = c.loop-line.line-index in
    let line = c.line-item.result in
    let is = rates_are all c.deref.result.now c.in_ok-rates.rates.items line.node c.rates_of.result.now c.in_ok-rates.ensures c.deref.ensures.value
    c.rates_of.ensures.value in
    let below : i < length nodes = omega arith in
    let at : line ≡ get_or nodes i line = c.line-item.is in
    let more : take (i + 1) nodes ≡ take i nodes ++ line ∷ [] = take_more nodes i line below ∙ ap (λ (n : NodeLine). take i nodes ++ n ∷ []) (sym at) in
    let pushed : c.push.new.self.items ≡ c.loop-line.clocks.items ++ c.in_ok-clock.clock ∷ [] = search rules in
    let reads : segment_clock_reads c.in_ok-clock.clock ≡ segment_reading line.offset (rates_of all line.node) =
    c.in_ok-clock.ensures ∙ ap (λ (l : List (ℕ × ℤ)). segment_reading line.offset l) is in
    rw (more, pushed) (clock_more all (take i nodes) c.loop-line.clocks.items line c.in_ok-clock.clock c.loop-line.invariant reads c.rates_of.ensures.range)

pub returns-clause-count : goal.returns-clause-count
returns-clause-count c =
    let nodes = c.args.nodes.now in
    let whole : take c.loop-line.line-index nodes ≡ nodes = take_all c.loop-line.line-index nodes (omega arith) in
    as_many c.args.rates.now nodes c.loop-line.clocks.items
    (subst (λ (l : List NodeLine). AreClocks c.args.rates.now l c.loop-line.clocks.items) whole c.loop-line.invariant)

pub returns-clause-stated : goal.returns-clause-stated
returns-clause-stated c =
    let nodes = c.args.nodes.now in
    let whole : take c.loop-line.line-index nodes ≡ nodes = take_all c.loop-line.line-index nodes (omega arith) in
    λ v. read_as_stated c.args.rates.now nodes c.loop-line.clocks.items v
    (subst (λ (l : List NodeLine). AreClocks c.args.rates.now l c.loop-line.clocks.items) whole c.loop-line.invariant)

pub returns-clause-ids : goal.returns-clause-ids
returns-clause-ids c =
    let nodes = c.args.nodes.now in
    let whole : take c.loop-line.line-index nodes ≡ nodes = take_all c.loop-line.line-index nodes (omega arith) in
    ids_in_range c.args.rates.now nodes c.loop-line.clocks.items
    (subst (λ (l : List NodeLine). AreClocks c.args.rates.now l c.loop-line.clocks.items) whole c.loop-line.invariant)
