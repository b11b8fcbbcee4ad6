use Rattle.std.proofs.Common.{◌+◌, Some, None, length, drop, position, arith, ◌∙◌, ap, sym}
use Rattle.std.proofs.lemmas.List.{length-drop, take_rest}
use Rattle.text_readers.specs.Words.{is_blank}
use Rattle.text_readers.proofs.LineFeeds.{first_place}
use Rattle.text_readers.proofs.BlanksFound.{is_low, before_place, nowhere, still_none, one_more}
use Rattle.text_readers.proofs.words.blank.Goals as goal

pub returns-then-is_blank : goal.returns-then-is_blank
returns-then-is_blank c =
    let bytes = c.args.bytes.now in
    let seen = c.loop-step.seen in
    let step = c.in-Some.step in
    let low = before_place is_low (drop seen bytes) step (c.in-Some.ensures ∙ ap (position is_low) (take_rest bytes seen)) in
    first_place is_blank bytes (Some (seen + step)) (
      record {
        low = omega arith;
        high = omega (arith, low.0, length-drop seen bytes, c.loop-step.invariant.within);
        before = still_none bytes seen step c.loop-step.invariant.none low.1;
      },
      sym c.is_blank.ensures ∙ c.if-is_blank.true,
    )

pub loop-step-preserved : goal.loop-step-preserved
loop-step-preserved c =
    let bytes = c.args.bytes.now in
    let seen = c.loop-step.seen in
    let step = c.in-Some.step in
    let low = before_place is_low (drop seen bytes) step (c.in-Some.ensures ∙ ap (position is_low) (take_rest bytes seen)) in
    record {
      within = omega (arith, low.0, length-drop seen bytes, c.loop-step.invariant.within);
      none = one_more bytes (seen + step) (still_none bytes seen step c.loop-step.invariant.none low.1)
          (sym c.is_blank.ensures ∙ c.if-is_blank.false);
    }

pub returns : goal.returns
returns c =
    let bytes = c.args.bytes.now in
    let seen = c.loop-step.seen in
    let rest = length (drop seen bytes) in
    let low = nowhere is_low (drop seen bytes) (c.in_default.ensures ∙ ap (position is_low) (take_rest bytes seen)) in
    first_place is_blank bytes None (λ k start below. still_none bytes seen rest c.loop-step.invariant.none low k start
    (omega (arith, below, length-drop seen bytes, c.loop-step.invariant.within)))
