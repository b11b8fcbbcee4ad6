use Rattle.std.proofs.Common.{◌≡◌, ℕ, ◌+◌, ◌*◌, ◌/◌, List, ap, arith, sym, ◌∙◌}
use Rattle.link_trace.specs.Passes.{Lines}
use Rattle.link_trace.specs.declared.lines.LoseLine.{LoseLine}
use Rattle.rand_pcg.specs.Lcg.{Lcg}
use Rattle.scenario_maker.specs.Drawn.{later}
use Rattle.scenario_maker.specs.Made.{drawn_losses, frame_losses}
use Rattle.scenario_maker.proofs.LaterWords.{none_on}
use Rattle.scenario_maker.proofs.LoopSteps.{steps_to, losses_added}
use Rattle.scenario_maker.proofs.losses.add_losses.Goals as goal

pub loop-frame-init : goal.loop-frame-init
loop-frame-init c =
    let lost : List LoseLine → Lines = λ ls. record c.args.trace.now.lines { losses = ls } in
    let none : 4 * (c.args.nodes / 2) * 0 ≡ 0 = omega arith in
    record { lines = ap lost c.requires.none; draws = sym (ap (λ (k : ℕ). later k c.args.draws.now) none ∙ none_on c.args.draws.now) }

pub loop-frame-preserved : goal.loop-frame-preserved
loop-frame-preserved c =
    let g = c.args.draws.now in
    let f = c.loop-frame.frame in
    let n = c.args.nodes in
    record {
      lines = losses_added c.args.trace.now.lines c.loop-frame.trace.lines c.add_losses_of.new.trace.lines (frame_losses g n) f
          (drawn_losses c.loop-frame.draws n f) c.loop-frame.invariant.lines
          (ap (λ (h : Lcg). drawn_losses h n f) c.loop-frame.invariant.draws) (c.in_ok-add_losses_of.ensures).losses;
      draws = steps_to (4 * (n / 2) * f) (4 * (n / 2)) (4 * (n / 2) * (f + 1)) g c.loop-frame.draws c.add_losses_of.new.draws c.loop-frame.invariant.draws
          (c.in_ok-add_losses_of.ensures).left (omega arith);
    }
