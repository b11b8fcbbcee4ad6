use Rattle.std.proofs.Common.{◌≡◌, ◌<◌, ℕ, List, length, get_or, sym, ◌∙◌, ap, arith}
use Rattle.std.proofs.lemmas.List.{get_or-map}
use Rattle.scenario_text.specs.declared.lines.NodeLine.{NodeLine}
use Rattle.std.proofs.lemmas.Option.{same_Some}
use Rattle.std.proofs.lemmas.Bool.{eqb-true}
use Rattle.plain_bus.proofs.HeardAlone.{only_initiator}
use Rattle.plain_bus.proofs.stepping.with_lone.Goals as goal

pub returns-then-from-nodes : goal.returns-then-from-nodes
returns-then-from-nodes c s t sealed flood =
    let lines = c.args.nodes.now in
    let place = c.lowest-place.result in
    let line = c.index-nodes-from.result in
    let named : ℕ = (get_or lines c.from-then-from-nodes.result line).node in
    let inside : place < length lines = omega (arith, c.if-from-nodes.true, c.from.ensures) in
    let node : get_or t.nodes place 0 ≡ named =
    ap (λ (l : List ℕ). get_or l place 0) sealed ∙ get_or-map (λ (l : NodeLine). l.node) lines place line 0 inside
    ∙ ap (λ (n : ℕ). (get_or lines n line).node) (sym c.from-then-from-nodes.ensures) in
    record {
      limit = flood.limit;
      links = flood.links;
      captures = flood.captures;
      initiators = flood.initiators;
      everyone = flood.everyone;
      here = flood.here;
      inside = flood.inside;
      lone = λ o v is there.
          only_initiator s t c.args.flood.now flood place c.without.result
          (eqb-true c.without.result 0 (sym c.is_empty-2.ensures ∙ c.if-is_empty-2.true)) c.without.ensures.others v there ∙ node
          ∙ same_Some named o is;
    }
