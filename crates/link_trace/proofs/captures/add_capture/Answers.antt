use Rattle.std.proofs.Common.{◌≡◌, ◌∙◌, List, arith, subst, rules}
use Rattle.std.specs.List.{insert}
use Rattle.link_trace.specs.declared.lines.CaptureLine.{CaptureLine}
use Rattle.link_trace.specs.Order.{HasPlace, by_capture}
use Rattle.link_trace.specs.Passes.{is_capture}
use Rattle.link_trace.proofs.Inserted.{insert_is_with_line, insert_ascends}
use Rattle.link_trace.proofs.Orders.{by_capture_total}
use Rattle.link_trace.proofs.CaptureKeys.{any_first}
use Rattle.link_trace.proofs.captures.add_capture.Goals as goal

pub insert-requires : goal.insert-requires
insert-requires c = let place = c.in-Err.ensures.place c.args.line.from in let within = place.within in let long = c.deref.ensures.len in omega arith

pub returns-in-Ok-clause-twice : goal.returns-in-Ok-clause-twice
returns-in-Ok-clause-twice c = λ found.
    rw (← c.deref.ensures.value) (any_first (is_capture c.args.line.frame c.args.line.slot c.args.line.step c.args.line.at)
    c.deref.result.now c.in-Ok.field-0 c.args.line c.in-Ok.ensures.found)

-- the line has the place that the search found
place : (c : goal.In_ok-insert-in-Err) → HasPlace by_capture c.args.lines.now.items c.args.line c.in-Err.place
place c = subst (λ (ls : List CaptureLine). HasPlace by_capture ls c.args.line c.in-Err.place) c.deref.ensures.value (c.in-Err.ensures.place c.args.line.from)

inserted : (c : goal.In_ok-insert-in-Err) → c.insert.new.self.items ≡ insert c.args.lines.now.items c.in-Err.place c.args.line
inserted c = search rules

pub returns-in_ok-insert-in-Err-clause-added : goal.returns-in_ok-insert-in-Err-clause-added
returns-in_ok-insert-in-Err-clause-added c = λ done. inserted c
    ∙ insert_is_with_line by_capture by_capture_total c.args.lines.now.items c.args.line c.in-Err.place (place c)

pub returns-in_ok-insert-in-Err-clause-ascends : goal.returns-in_ok-insert-in-Err-clause-ascends
returns-in_ok-insert-in-Err-clause-ascends c =
    rw (inserted c) (insert_ascends by_capture by_capture_total c.args.lines.now.items c.args.line c.in-Err.place (place c) c.requires)
