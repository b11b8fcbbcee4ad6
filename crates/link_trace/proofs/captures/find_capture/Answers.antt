use Rattle.std.proofs.Common.{rules}
use Rattle.std.proofs.lemmas.List.Sorted.{answers_always}
use Rattle.link_trace.specs.declared.lines.CaptureLine.{CaptureLine}
use Rattle.link_trace.proofs.CaptureKeys.{by_tuples, found_by_key, none_of_key, place_of_key}
use Rattle.link_trace.proofs.captures.find_capture.Goals as goal

pub returns-clause-found : goal.returns-clause-found
returns-clause-found c =
    let facts = c.binary_search_by_key.ensures in
    let by_key = facts.position (λ (l : CaptureLine). (l.frame, l.slot, l.step, l.at)) (answers_always _ _ _ (λ f a r g called. search rules)) in
    found_by_key c.args.frame c.args.slot c.args.step c.args.at c.args.lines.now c.requires c.binary_search_by_key.result facts.bound
    (by_tuples c.args.frame c.args.slot c.args.step c.args.at c.args.lines.now c.requires c.binary_search_by_key.result by_key)

pub returns-clause-absent : goal.returns-clause-absent
returns-clause-absent c =
    let facts = c.binary_search_by_key.ensures in
    let by_key = facts.position (λ (l : CaptureLine). (l.frame, l.slot, l.step, l.at)) (answers_always _ _ _ (λ f a r g called. search rules)) in
    none_of_key c.args.frame c.args.slot c.args.step c.args.at c.args.lines.now c.requires c.binary_search_by_key.result facts.bound
    (by_tuples c.args.frame c.args.slot c.args.step c.args.at c.args.lines.now c.requires c.binary_search_by_key.result by_key)

pub returns-clause-place : goal.returns-clause-place
returns-clause-place c =
    let facts = c.binary_search_by_key.ensures in
    let by_key = facts.position (λ (l : CaptureLine). (l.frame, l.slot, l.step, l.at)) (answers_always _ _ _ (λ f a r g called. search rules)) in
    place_of_key c.args.frame c.args.slot c.args.step c.args.at c.args.lines.now c.requires c.binary_search_by_key.result facts.bound
    (by_tuples c.args.frame c.args.slot c.args.step c.args.at c.args.lines.now c.requires c.binary_search_by_key.result by_key)
