use Rattle.std.proofs.Common.{◌≡◌, ℕ, ℤ, List, [], replicate, ◌∙◌, ap, arith}
use Rattle.scenario_clocks.proofs.NodeRates.{none_yet}
use Rattle.scenario_clocks.proofs.clock_lines.no_rates.Goals as goal

pub returns : goal.returns
returns c =
    let all : c.loop.counter ≡ 201 = omega arith in
    let none : List (ℕ × ℤ) = [] in
    none_yet c.loop.lists.items (c.loop.invariant ∙ ap (λ (n : ℕ). replicate n none) all)
