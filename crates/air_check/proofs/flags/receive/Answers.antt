use Rattle.std.proofs.Common.{ℕ, ◌<◌, length, sym, subst, arith, ◌∙◌}
use Rattle.std.proofs.lemmas.Bool.{both_ways}
use Rattle.std.proofs.lemmas.List.{get_or_default}
use Rattle.air_log.specs.Courses.{hearing_of}
use Rattle.air_check.proofs.Marked.{IsMarked, passed, marked, flags_more}
use Rattle.air_check.proofs.flags.receive.Goals as goal
use Rattle.air_check.proofs.flags.receive.Goals.{then-is_of, else-is_of}

pub loop-k-preserved : goal.loop-k-preserved
loop-k-preserved c =
    let sent = c.args.sent.now in
    let old = c.args.flags.now.items in
    let h = hearing_of c.args.h.now in
    let begin = c.starting_at-begin.result.0 in
    let k = c.loop-k.k in
    let flags = c.loop-k.flags.items in
    let near = c.loop-k.auto in
    let range = c.starting_at-begin.ensures.range in
    let test = c.loop-k-test.true in
    let below : k < length sent = omega arith in
    elim c.if-is_of.branch [
      | then-is_of w ↦ rw (w.flags-is, w.set_flag.ensures.value)
          (marked sent old h.node h.sending begin k flags w.set_flag.ensures.range (omega arith) below c.requires.size c.loop-k.invariant
          (λ d. get_or_default sent k d c.index-sent-k.result below ∙ sym c.index-sent-k.is ∙ c.is_of.ensures.0 w.if-is_of.true))
      | else-is_of w ↦ rw w.flags-is
          (passed sent old h.node h.sending begin k flags c.loop-k.invariant
          (λ d is. both_ways c.is_of.result w.if-is_of.false
          (c.is_of.ensures.1 (c.index-sent-k.is ∙ get_or_default sent k c.index-sent-k.result d below ∙ is))))
    ]

pub returns : goal.returns
returns c =
    λ hs are.
    let h = hearing_of c.args.h.now in
    flags_more c.args.sent.now c.args.flags.now.items h.node h.sending c.starting_at-begin.result.0 c.starting_at-begin.result.1 c.loop-k.flags.items
    c.starting_at-begin.ensures.all
    (subst (λ (n : ℕ). IsMarked c.args.sent.now c.args.flags.now.items h.node h.sending c.starting_at-begin.result.0 n c.loop-k.flags.items)
    (omega (arith, c.loop-k-test.false, c.loop-k.auto, c.starting_at-begin.ensures.range)) c.loop-k.invariant) hs are
