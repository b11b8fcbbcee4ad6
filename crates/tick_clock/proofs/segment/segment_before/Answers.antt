use Rattle.std.proofs.Common.{◌≡◌, ℕ, ◌-◌, suc, ◌∙◌, sym, ap, arith}
use Rattle.tick_clock.specs.Segments.{first_segment, last_segment}
use Rattle.tick_clock.proofs.Walks.{last_at}
use Rattle.tick_clock.proofs.segment.segment_before.Goals as goal

pub returns-else-count-eq0 : goal.returns-else-count-eq0
returns-else-count-eq0 c =
    let xs = c.args.segments.now in
    let k : ℕ = c.args.count - 1 in
    let is : suc k ≡ c.args.count = omega arith in
    sym (last_at first_segment xs k first_segment (omega arith)) ∙ ap (last_segment first_segment xs) is
