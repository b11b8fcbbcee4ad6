use Rattle.std.proofs.Common.{◌≡◌, ◌∙◌, arith, get_or, inl, inr, ap}
use Rattle.std.proofs.lemmas.Bool.{cases_lt}
use Rattle.std.proofs.lemmas.List.{get_or_read}
use Rattle.link_trace.proofs.starts.first_from.Goals as goal

pub returns-else-slot_number-slot-clause-parted : goal.returns-else-slot_number-slot-clause-parted
returns-else-slot_number-slot-clause-parted g c =
    let place = c.loop-place.place in
    let lines = c.args.lines.now in
    let slot_of = g.L.OfSlot.slot_of in (
      c.loop-place.invariant.before,
      λ k d low high.
          let at = get_or_read lines place c.index-lines-place.result c.loop-place-test.true c.index-lines-place.is d in
          let here : c.slot_number.result ≡ slot_of (get_or lines place d) = c.slot_number.ensures.value ∙ ap slot_of at in
          let reached = c.if-slot_number-slot.false in
          elim (cases_lt place k) [
            | inl after ↦ omega (arith, reached, here, c.requires.ascends place k d after high)
            | inr not_after ↦ let same : k ≡ place = omega arith in rw same (omega (arith, reached, here))
          ],
    )
