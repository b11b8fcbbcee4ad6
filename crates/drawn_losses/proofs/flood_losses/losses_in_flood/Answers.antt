use Rattle.std.proofs.Common.{◌≡◌, ◌++◌, ℕ, flat_map, length, subst, sym, ◌∙◌, ap, arith, append-nil}
use Rattle.std.proofs.lemmas.List.{length-map}
use Rattle.std.specs.List.{range_with_len}
use Rattle.scenario_text.specs.declared.lines.NodeLine.{NodeLine}
use Rattle.bus_terms.specs.Flooding.{Moment, moment}
use Rattle.plain_bus.specs.FloodMasks.{AreAt, traced}
use Rattle.plain_bus.proofs.SteppedByMasks.{known_at, moment_first, moment_more}
use Rattle.drawn_losses.specs.StepLosses.{losses_of_step}
use Rattle.drawn_losses.proofs.LossesFound.{steps_more}
use Rattle.drawn_losses.proofs.flood_losses.losses_in_flood.Goals as goal

pub loop-step-init : goal.loop-step-init
loop-step-init g c = record {
  at = λ x flood. subst (λ (m : Moment). AreAt m (g.M.Links.nodes c.args.links.now) c.first-now.result) (sym (moment_first x))
      (c.first-now.ensures.at x (traced (g.M.Links.lines c.args.links.now) (g.M.Links.nodes c.args.links.now)) c.requires.sealed flood);
  found = λ x flood. sym (append-nil c.args.lines.now.items);
  length = c.first-now.ensures.length ∙ sym (ap length c.requires.sealed ∙ length-map c.args.nodes.now (λ (n : NodeLine). n.node));
  times = c.first-now.ensures.times;
}

pub loop-step-preserved : goal.loop-step-preserved
loop-step-preserved g c =
    let nodes = g.M.Links.nodes c.args.links.now in
    let lines = g.M.Links.lines c.args.links.now in
    let fl = c.args.flood.now in
    let k = c.loop-step.step in
    let inv = c.loop-step.invariant in
    record {
      at = λ x flood.
          subst (λ (m : Moment). AreAt m nodes c.go_on.new.self) (sym (moment_more x k))
          (c.go_on.ensures.at x (moment x k) (c.with_lone-lone.ensures x (traced lines nodes) c.requires.sealed flood) (known_at x flood.inside k)
          (inv.at x flood));
      found = λ x flood.
          steps_more (losses_of_step (g.B.Links.lines c.args.base.now) fl.frame fl.slot nodes x) k c.args.lines.now.items c.loop-step.lines.items
          c.losses_in_step.new.lines.items (inv.found x flood)
          (c.in_ok-losses_in_step.ensures x flood (known_at x flood.inside k) (inv.at x flood));
      length = c.go_on.ensures.length;
      times = c.go_on.ensures.times;
    }

pub returns : goal.returns
returns g c x flood =
    let fl = c.args.flood.now in
    let all : c.loop-step.step ≡ 12 = omega (arith, c.loop-step-test.false, c.loop-step.auto.step-end) in
    c.loop-step.invariant.found x flood
    ∙ ap (λ (n : ℕ). c.args.lines.now.items
    ++ flat_map (losses_of_step (g.B.Links.lines c.args.base.now) fl.frame fl.slot (g.M.Links.nodes c.args.links.now) x) (range_with_len 0 n)) all
