use Rattle.std.proofs.Common.{◌≡◌, ◌++◌, ◌∷◌, [], arith, rules, subst, List, ℕ, sym}
use Rattle.link_trace.specs.Starts.{AreStarts}
use Rattle.link_trace.proofs.SlotParts.{one_more_start}
use Rattle.link_trace.proofs.starts.slot_starts.Goals as goal

pub loop-slot-preserved : goal.loop-slot-preserved
loop-slot-preserved g c =
    let slot_of = g.L.OfSlot.slot_of in
    let lines = c.args.lines.now in
    let loop = c.loop-slot.invariant in
    let start = c.first_from-start.result in
    let parted = c.first_from-start.ensures.parted in
    let pushed : c.push.new.self.items ≡ c.loop-slot.starts.items ++ start ∷ [] = search rules in
    record {
      within = c.first_from-start.ensures.within;
      before = λ k d low high. omega (arith, parted.0 k d low high);
      starts = subst (λ (starts : List ℕ). AreStarts slot_of lines starts) (sym pushed)
          (one_more_start slot_of lines c.loop-slot.starts.items c.loop-slot.slot start loop.starts loop.many c.first_from-start.ensures.within parted);
      many = search rules;
    }
