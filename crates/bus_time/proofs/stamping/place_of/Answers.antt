use Rattle.std.proofs.Common.{◌<◌, List, Ok, Err, length, subst, rules}
use Rattle.std.proofs.lemmas.List.Sorted.{answers_always}
use Rattle.std.specs.List.Sorted.{IsBinarySearchResult}
use Rattle.std.specs.Ordering.{nat_cmp}
use Rattle.scenario_text.specs.FloodParts.{node_id}
use Rattle.scenario_text.specs.declared.lines.NodeLine.{NodeLine}
use Rattle.scenario_text.proofs.SoundScenarios.{sound}
use Rattle.scenario_text.proofs.NodeSearches.{found_node, none_missed}
use Rattle.bus_time.proofs.stamping.place_of.Goals as goal

pub returns-clause-place : goal.returns-clause-place
returns-clause-place c = subst (λ (l : List NodeLine). c.in-Ok.place < length l) c.nodes.ensures.value c.in-Ok.ensures.bound

pub returns-clause-node : goal.returns-clause-node
returns-clause-node c = λ d.
    let by_id = c.in-Ok.ensures.position node_id (answers_always _ _ _ (λ f a r g called. search rules)) in
    found_node c.args.s.now.nodes c.args.node c.in-Ok.place
    (subst (λ (l : List NodeLine). IsBinarySearchResult (λ n. nat_cmp n.node c.args.node) l (Ok c.in-Ok.place)) c.nodes.ensures.value by_id) d

pub unreachable-requires : goal.unreachable-requires
unreachable-requires c =
    let s = c.args.s.now in
    let by_id = c.in-Err.ensures.position node_id (answers_always _ _ _ (λ f a r g called. search rules)) in
    none_missed s.nodes (sound s c.nodes.ensures.said).ascending c.args.node c.in-Err.field-0 c.requires
    (subst (λ (l : List NodeLine). IsBinarySearchResult (λ n. nat_cmp n.node c.args.node) l (Err c.in-Err.field-0)) c.nodes.ensures.value by_id)
