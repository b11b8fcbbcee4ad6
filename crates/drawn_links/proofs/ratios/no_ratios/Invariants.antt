use Rattle.std.proofs.Common.{◌≡◌, [], replicate}
use Rattle.drawn_links.proofs.ratios.no_ratios.Given as goal

abbrev pub invariant-loop : goal.invariant-loop
invariant-loop l = l.links.items ≡ replicate l.counter []
