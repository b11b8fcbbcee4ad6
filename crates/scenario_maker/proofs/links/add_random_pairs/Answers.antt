use Rattle.std.proofs.Common.{◌≡◌, ℕ, ◌+◌, ◌*◌, ◌%◌, ap, arith, refl, sym, ◌∙◌}
use Rattle.scenario_maker.specs.Drawn.{drawn_word}
use Rattle.scenario_maker.specs.Made.{random_pair}
use Rattle.scenario_maker.proofs.LaterWords.{none_on}
use Rattle.scenario_maker.proofs.LoopSteps.{steps_to, word_at, same_pair, pair_added}
use Rattle.scenario_maker.proofs.links.add_random_pairs.Goals as goal

pub loop-k-init : goal.loop-k-init
loop-k-init c = record { lines = refl; draws = sym (none_on c.args.draws.now) }

pub loop-k-preserved : goal.loop-k-preserved
loop-k-preserved c =
    let g = c.args.draws.now in
    let k = c.loop-k.k in
    let n = c.args.nodes in
    let first = word_at (2 * k) 0 (2 * k) g c.loop-k.draws c.loop-k.invariant.draws (omega arith) in
    let from : c.node-from.result ≡ 1 + drawn_word g (2 * k) % n = c.node-from.ensures.value ∙ ap (λ (x : ℕ). 1 + x % n) first in
    let once = steps_to (2 * k) 1 (2 * k + 1) g c.loop-k.draws c.node-from.new.self c.loop-k.invariant.draws c.node-from.ensures.left refl in
    let second = word_at (2 * k + 1) 0 (2 * k + 1) g c.node-from.new.self once (omega arith) in
    let to : c.node-to.result ≡ 1 + drawn_word g (2 * k + 1) % n = c.node-to.ensures.value ∙ ap (λ (x : ℕ). 1 + x % n) second in
    record {
      lines = pair_added c.args.trace.now.lines c.loop-k.trace.lines c.add_pair.new.trace.lines (random_pair g n) 0 k k (c.node-from.result, c.node-to.result)
          c.loop-k.invariant.lines (same_pair c.node-from.result c.node-to.result (1 + drawn_word g (2 * k) % n) (1 + drawn_word g (2 * k + 1) % n) from to)
          (omega arith)
          (c.in_ok-add_pair.ensures);
      draws = steps_to (2 * k + 1) 1 (2 * (k + 1)) g c.node-from.new.self c.node-to.new.self once c.node-to.ensures.left (omega arith);
    }
