use Rattle.std.proofs.Common.{◌<◌, List, Ok, Err, length, subst, rules}
use Rattle.std.proofs.lemmas.List.Sorted.{answers_always}
use Rattle.std.specs.List.Sorted.{IsBinarySearchResult}
use Rattle.std.specs.Ordering.{nat_cmp}
use Rattle.scenario_text.specs.FloodParts.{node_id}
use Rattle.scenario_text.specs.declared.lines.NodeLine.{NodeLine}
use Rattle.scenario_text.proofs.SoundScenarios.{sound}
use Rattle.scenario_text.proofs.NodeSearches.{found_known, none_known}
use Rattle.air_check.proofs.FoundClocks.{clock_found}
use Rattle.air_check.proofs.node_clocks.clock_of.Goals as goal

pub returns-in-Ok-clause-known : goal.returns-in-Ok-clause-known
returns-in-Ok-clause-known c =
    let ns = c.args.s.now.nodes in
    let by_id = c.in-Ok.ensures.position node_id (answers_always _ _ _ (λ f a r g called. search rules)) in
    found_known ns c.args.node c.in-Ok.place (subst (λ (l : List NodeLine). c.in-Ok.place < length l) c.nodes.ensures.value c.in-Ok.ensures.bound)
    (subst (λ (l : List NodeLine). IsBinarySearchResult (λ n. nat_cmp n.node c.args.node) l (Ok c.in-Ok.place)) c.nodes.ensures.value by_id)

pub returns-in-Ok-clause-reads : goal.returns-in-Ok-clause-reads
returns-in-Ok-clause-reads c =
    let s = c.args.s.now in
    let by_id = c.in-Ok.ensures.position node_id (answers_always _ _ _ (λ f a r g called. search rules)) in
    clock_found s c.args.clocks.now c.requires (sound s c.nodes.ensures.said).ascending c.args.node c.in-Ok.place c.index-clocks-place.result
    (subst (λ (l : List NodeLine). c.in-Ok.place < length l) c.nodes.ensures.value c.in-Ok.ensures.bound)
    (subst (λ (l : List NodeLine). IsBinarySearchResult (λ n. nat_cmp n.node c.args.node) l (Ok c.in-Ok.place)) c.nodes.ensures.value by_id)
    c.index-clocks-place.is

pub returns-in-Err-clause-unknown : goal.returns-in-Err-clause-unknown
returns-in-Err-clause-unknown c =
    let s = c.args.s.now in
    let by_id = c.in-Err.ensures.position node_id (answers_always _ _ _ (λ f a r g called. search rules)) in
    none_known s.nodes (sound s c.nodes.ensures.said).ascending c.args.node c.in-Err.field-0
    (subst (λ (l : List NodeLine). IsBinarySearchResult (λ n. nat_cmp n.node c.args.node) l (Err c.in-Err.field-0)) c.nodes.ensures.value by_id)
