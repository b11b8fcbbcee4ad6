use Rattle.std.proofs.Common.{◌≡◌, ℕ, ◌+◌, ◌*◌, ◌%◌, ap, refl, ◌∙◌}
use Rattle.link_trace.specs.declared.lines.LoseLine.{LoseLine}
use Rattle.scenario_maker.specs.Drawn.{drawn_word}
use Rattle.scenario_maker.proofs.LoopSteps.{steps_to, word_at}
use Rattle.scenario_maker.proofs.losses.draw_loss.Goals as goal

pub returns-clause-value : goal.returns-clause-value
returns-clause-value c =
    let g = c.args.draws.now in
    let n = c.args.nodes in
    let two = steps_to 1 1 2 g c.below-slot.new.self c.below-step.new.self c.below-slot.ensures.left c.below-step.ensures.left refl in
    let three = steps_to 2 1 3 g c.below-step.new.self c.node-from.new.self two c.node-from.ensures.left refl in
    let slot : c.below-slot.result ≡ drawn_word g (4 * 0) % 43 = c.below-slot.ensures.value in
    let step : c.below-step.result ≡ drawn_word g (4 * 0 + 1) % 12 = c.below-step.ensures.value
    ∙ ap (λ (x : ℕ). drawn_word c.below-slot.new.self 0 % x) c.from.ensures ∙ ap (λ (x : ℕ). x % 12)
    (word_at 1 0 (4 * 0 + 1) g c.below-slot.new.self c.below-slot.ensures.left refl) in
    let from : c.node-from.result ≡ 1 + drawn_word g (4 * 0 + 2) % n = c.node-from.ensures.value ∙ ap (λ (x : ℕ). 1 + x % n)
    (word_at 2 0 (4 * 0 + 2) g c.below-step.new.self two refl) in
    let to : c.node-to.result ≡ 1 + drawn_word g (4 * 0 + 3) % n = c.node-to.ensures.value ∙ ap (λ (x : ℕ). 1 + x % n)
    (word_at 3 0 (4 * 0 + 3) g c.node-from.new.self three refl) in
    let at : ℕ → ℕ → ℕ → ℕ → LoseLine = λ a b u v. record { frame = c.args.frame; slot = a; step = b; from = u; to = v } in
    ap (λ (x : ℕ). at x c.below-step.result c.node-from.result c.node-to.result) slot
    ∙ ap (λ (x : ℕ). at (drawn_word g (4 * 0) % 43) x c.node-from.result c.node-to.result) step
    ∙ ap (λ (x : ℕ). at (drawn_word g (4 * 0) % 43) (drawn_word g (4 * 0 + 1) % 12) x c.node-to.result) from
    ∙ ap (λ (x : ℕ). at (drawn_word g (4 * 0) % 43) (drawn_word g (4 * 0 + 1) % 12) (1 + drawn_word g (4 * 0 + 2) % n) x) to

pub returns-clause-left : goal.returns-clause-left
returns-clause-left c =
    let g = c.args.draws.now in
    let two = steps_to 1 1 2 g c.below-slot.new.self c.below-step.new.self c.below-slot.ensures.left c.below-step.ensures.left refl in
    let three = steps_to 2 1 3 g c.below-step.new.self c.node-from.new.self two c.node-from.ensures.left refl in
    steps_to 3 1 4 g c.node-from.new.self c.node-to.new.self three c.node-to.ensures.left refl
