use Rattle.std.proofs.Common.{◌≡◌, ℕ, ◌+◌, ◌*◌, ◌%◌, ap, arith, refl, sym, ◌∙◌, [], rules, w8, SFits, to_z, of_z}
use Rattle.std.proofs.lemmas.Int.{to_z-of_z}
use Rattle.std.specs.Prelude.{pos, ◌-ℤ◌}
use Rattle.scenario_maker.specs.Drawn.{drawn_word}
use Rattle.scenario_maker.specs.Made.{node_line, rate_line}
use Rattle.scenario_maker.proofs.LaterWords.{none_on}
use Rattle.scenario_maker.proofs.LoopSteps.{steps_to, word_at, pushed, node_is, rate_is}
use Rattle.scenario_maker.proofs.nodes.clocks.Goals as goal

pub loop-k-init : goal.loop-k-init
loop-k-init c = record { lines = c.new-lines.ensures.items; rates = c.new-rates.ensures.items; draws = sym (none_on c.args.draws.now) }

pub loop-k-preserved : goal.loop-k-preserved
loop-k-preserved c =
    let g = c.args.draws.now in
    let k = c.loop-k.k in
    let first = word_at (2 * k) 0 (2 * k) g c.loop-k.draws c.loop-k.invariant.draws (omega arith) in
    let offset : c.from-offset.result ≡ drawn_word g (2 * k) % 256001 = c.from-offset.ensures ∙ c.below.ensures.value ∙ ap (λ (x : ℕ). x % 256001) first in
    let once = steps_to (2 * k) 1 (2 * k + 1) g c.loop-k.draws c.below.new.self c.loop-k.invariant.draws c.below.ensures.left refl in
    let second = word_at (2 * k + 1) 0 (2 * k + 1) g c.below.new.self once (omega arith) in
    let ppm : c.rate-ppm.result ≡ pos (drawn_word g (2 * k + 1) % 41) -ℤ pos 20 = c.rate-ppm.ensures.value ∙ ap (λ (x : ℕ). pos (x % 41) -ℤ pos 20) second in
    let fits : SFits w8 c.rate-ppm.result = search rules in
    let kept = to_z-of_z w8 c.rate-ppm.result fits in
    record {
      lines = pushed (node_line g) [] c.loop-k.lines.items c.push.new.self.items
          (record { node = c.node_of-node.result; offset = c.from-offset.result }) 1 k (k + 1)
          c.loop-k.invariant.lines (c.in_ok-push.ensures).items
          (node_is g k c.node_of-node.result c.from-offset.result c.node_of-node.ensures offset) (omega arith);
      rates = pushed (rate_line g) [] c.loop-k.rates.items c.push-in-loop-k.new.self.items
          (record { node = c.node_of-node.result; from = 0; ppm = to_z w8 (of_z w8 c.rate-ppm.result) }) 1 k (k + 1)
          c.loop-k.invariant.rates (c.in_ok-push-2.ensures).items
          (rate_is g k c.node_of-node.result (to_z w8 (of_z w8 c.rate-ppm.result)) c.node_of-node.ensures (kept ∙ ppm)) (omega arith);
      draws = steps_to (2 * k + 1) 1 (2 * (k + 1)) g c.below.new.self c.rate-ppm.new.draws once c.rate-ppm.ensures.left (omega arith);
    }
