use Rattle.std.proofs.Common.{◌≡◌, ℕ, ◌+◌, ◌-◌, ◌%◌, ap, arith, refl, sym, ◌∙◌}
use Rattle.scenario_maker.specs.Drawn.{drawn_word}
use Rattle.scenario_maker.specs.Made.{tree_pair}
use Rattle.scenario_maker.proofs.LaterWords.{none_on}
use Rattle.scenario_maker.proofs.LoopSteps.{steps_to, word_at, same_pair, pair_added}
use Rattle.scenario_maker.proofs.links.add_tree.Goals as goal

pub loop-k-init : goal.loop-k-init
loop-k-init c = record { lines = refl; draws = sym (none_on c.args.draws.now) }

pub loop-k-preserved : goal.loop-k-preserved
loop-k-preserved c =
    let g = c.args.draws.now in
    let k = c.loop-k.k in
    let before : k + 1 ≡ k + 2 - 1 = omega arith in
    let drawn = word_at k 0 (k + 2 - 2) g c.loop-k.draws c.loop-k.invariant.draws (omega arith) in
    let parent : c.node-parent.result ≡ 1 + drawn_word g (k + 2 - 2) % (k + 2 - 1) =
    c.node-parent.ensures.value ∙ ap (λ (x : ℕ). 1 + x % (k + 1)) drawn ∙ ap (λ (m : ℕ). 1 + drawn_word g (k + 2 - 2) % m) before in
    record {
      lines = pair_added c.args.trace.now.lines c.loop-k.trace.lines c.add_pair.new.trace.lines (tree_pair g) 2 k (k + 2)
          (c.node_of-node.result, c.node-parent.result)
          c.loop-k.invariant.lines (same_pair c.node_of-node.result c.node-parent.result (k + 2)
          (1 + drawn_word g (k + 2 - 2) % (k + 2 - 1)) c.node_of-node.ensures parent) (omega arith)
          (c.in_ok-add_pair.ensures);
      draws = steps_to k 1 (k + 1) g c.loop-k.draws c.node-parent.new.self c.loop-k.invariant.draws c.node-parent.ensures.left refl;
    }
