use Rattle.std.proofs.Common.{◌∙◌, ap, sym, arith, Option}
use Rattle.std.specs.Option.{option_map}
use Rattle.link_trace.specs.declared.lines.CaptureLine.{CaptureLine}
use Rattle.link_trace.specs.Order.{by_capture}
use Rattle.link_trace.specs.Passes.{is_capture}
use Rattle.link_trace.proofs.CaptureKeys.{find_first, find_none, same_find}
use Rattle.link_trace.proofs.SlotNumbers.{at_capture}
use Rattle.link_trace.proofs.captures.captured_sender.Goals as goal

pub find_capture-requires : goal.find_capture-requires
find_capture-requires c = c.of_slots-of_slot.ensures.ascends by_capture c.requires.ascends

pub returns-in-Ok : goal.returns-in-Ok
returns-in-Ok c =
    let f = c.args.frame in
    let j = c.args.slot in
    let k = c.args.step in
    let v = c.args.at in
    let test = is_capture f j k v in
    let number = c.slot_number-number.ensures.value in
    let part = c.of_slots-of_slot.result.now in
    let same = same_find test part c.args.lines.now
    (c.of_slots-of_slot.ensures.all test (λ l is. let place = at_capture f j k v l is in (omega (arith, place.0, number), omega (arith, place.1, number)))) in
    ap (λ (o : Option CaptureLine). option_map (λ (l : CaptureLine). l.from) o)
    (sym (find_first test part c.in-Ok.place c.index-of_slot-place.result c.in-Ok.ensures.found) ∙ same)

pub returns-in-Err : goal.returns-in-Err
returns-in-Err c =
    let f = c.args.frame in
    let j = c.args.slot in
    let k = c.args.step in
    let v = c.args.at in
    let test = is_capture f j k v in
    let number = c.slot_number-number.ensures.value in
    let part = c.of_slots-of_slot.result.now in
    let same = same_find test part c.args.lines.now
    (c.of_slots-of_slot.ensures.all test (λ l is. let place = at_capture f j k v l is in (omega (arith, place.0, number), omega (arith, place.1, number)))) in
    ap (λ (o : Option CaptureLine). option_map (λ (l : CaptureLine). l.from) o) (sym (find_none test part c.in-Err.ensures.absent) ∙ same)
