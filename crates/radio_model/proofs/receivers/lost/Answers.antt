use Rattle.std.proofs.Common.{◌≡◌, ◌+◌, ℕ, Bool, not, ◌&&◌, ◌==◌, get_or, ap, sym, ◌∙◌, subst}
use Rattle.std.proofs.lemmas.List.{get_or_default}
use Rattle.std.specs.Int.{bit_at}
use Rattle.link_trace.specs.Masks.{IsMaskUpto}
use Rattle.link_trace.specs.Passes.{captured}
use Rattle.link_trace.proofs.MaskBits.{one_with, one_without}
use Rattle.radio_model.specs.Hearing.{frame_of_sending, slot_of_sending, counter_of_sending}
use Rattle.radio_model.specs.Receptions.{is_captured}
use Rattle.radio_model.proofs.ReceiverMasks.{bit_tests}
use Rattle.radio_model.proofs.receivers.lost.Goals as goal
use Rattle.radio_model.proofs.receivers.lost.Goals.{then-is_lost, else-is_lost}

pub loop-i-preserved : goal.loop-i-preserved
loop-i-preserved c =
    λ m is.
    let i = c.loop-i.i in
    let nodes = c.args.nodes.now in
    let p = c.args.profile.now in
    let lines = c.args.trace.now.lines in
    let x = c.args.x.now in
    let named = λ (v : ℕ). not (is_captured p lines v x c.args.near.now (captured lines (frame_of_sending p x) (slot_of_sending x) (counter_of_sending x) v)) in
    let test = λ (v : ℕ). m v && named v in
    let inside = c.loop-i-test.true in
    let read : c.index-nodes-i.result ≡ get_or nodes i 0 = c.index-nodes-i.is ∙ get_or_default nodes i c.index-nodes-i.result 0 inside in
    let answer : test (get_or nodes i 0) ≡ c.is_lost.result =
    ap (λ (b : Bool). b && named (get_or nodes i 0)) (sym (bit_tests nodes m c.args.mixed i inside is))
    ∙ ap (λ (v : ℕ). (bit_at c.args.mixed i == 1) && named v) (sym read) ∙ sym c.is_lost.ensures in
    elim c.if-is_lost.branch [
      | then-is_lost w ↦
          subst (λ (k : ℕ). IsMaskUpto test nodes (i + 1) k) (sym w.places-is)
          (one_with nodes test i c.loop-i.places (c.loop-i.invariant m is) w.with-places.result w.with-places.ensures.set w.with-places.ensures.others
          (answer ∙ w.if-is_lost.true))
      | else-is_lost w ↦
          subst (λ (k : ℕ). IsMaskUpto test nodes (i + 1) k) (sym w.places-is)
          (one_without nodes test i c.loop-i.places (c.loop-i.invariant m is) (answer ∙ w.if-is_lost.false))
    ]
