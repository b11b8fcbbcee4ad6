use Rattle.std.proofs.Common.{◌≡◌, ◌≤◌, ℕ, All, length, subst, sym, ◌∙◌, ap, arith, rules, [], ◌∷◌, ◌++◌, length-append}
use Rattle.std.proofs.lemmas.List.{length-map}
use Rattle.scenario_text.specs.declared.lines.NodeLine.{NodeLine}
use Rattle.bus_terms.specs.Flooding.{Moment, moment}
use Rattle.plain_bus.specs.FloodMasks.{AreAt, traced}
use Rattle.plain_bus.specs.declared.station.Station.{Station}
use Rattle.plain_bus.proofs.SteppedByMasks.{known_at, moment_first, moment_more}
use Rattle.plain_bus.proofs.SendersKept.{senders_more}
use Rattle.plain_bus.proofs.stepping.flooded.Goals as goal

pub loop-step-init : goal.loop-step-init
loop-step-init g c = record {
  at = λ s flood. subst (λ (m : Moment). AreAt m (g.M.Links.nodes c.args.links.now) c.first-now.result) (sym (moment_first s))
      (c.first-now.ensures.at s (traced (g.M.Links.lines c.args.links.now) (g.M.Links.nodes c.args.links.now)) c.requires.sealed flood);
  senders = λ s flood k below. (let none : c.new-senders.result.items ≡ [] = search rules in absurd (omega (arith, below, ap length none)));
  steps = (let none : c.new-senders.result.items ≡ [] = search rules in ap length none);
  length = c.first-now.ensures.length ∙ sym (ap length c.requires.sealed ∙ length-map c.args.nodes.now (λ (n : NodeLine). n.node));
  times = c.first-now.ensures.times;
}

pub loop-step-preserved : goal.loop-step-preserved
loop-step-preserved g c = record {
  at = λ s flood.
      subst (λ (m : Moment). AreAt m (g.M.Links.nodes c.args.links.now) c.go_on.new.self) (sym (moment_more s c.loop-step.step))
      (c.go_on.ensures.at s (moment s c.loop-step.step) flood (known_at s flood.inside c.loop-step.step) (c.loop-step.invariant.at s flood));
  senders = λ s flood. senders_more s (g.M.Links.nodes c.args.links.now) c.loop-step.senders.items c.push.new.self.items c.loop-step.now.senders
      c.loop-step.step (c.loop-step.invariant.senders s flood) c.loop-step.invariant.steps (c.loop-step.invariant.at s flood).senders (search rules);
  steps = (let pushed : c.push.new.self.items ≡ c.loop-step.senders.items ++ c.loop-step.now.senders ∷ [] = search rules in
      ap length pushed ∙ omega (arith, length-append c.loop-step.senders.items (c.loop-step.now.senders ∷ []), c.loop-step.invariant.steps));
  length = c.go_on.ensures.length;
  times = c.go_on.ensures.times;
}

pub returns : goal.returns
returns g c =
    let all : c.loop-step.step ≡ 12 = omega (arith, c.loop-step-test.false, c.loop-step.auto.step-end) in
    record {
      each = λ s first.
          (let flood = c.with_lone-flood.ensures s (traced (g.M.Links.lines c.args.links.now) (g.M.Links.nodes c.args.links.now)) c.requires.sealed first in
          subst (λ (k : ℕ). AreAt (moment s k) (g.M.Links.nodes c.args.links.now) c.loop-step.now) all (c.loop-step.invariant.at s flood)).each;
      senders = λ s first. c.loop-step.invariant.senders s (c.with_lone-flood.ensures s (traced (g.M.Links.lines c.args.links.now)
          (g.M.Links.nodes c.args.links.now)) c.requires.sealed first);
      steps = c.loop-step.invariant.steps ∙ all;
      length = c.loop-step.invariant.length ∙ ap length c.requires.sealed ∙ length-map c.args.nodes.now (λ (n : NodeLine). n.node);
      times = subst (λ (k : ℕ). All (λ (x : Station). x.times ≤ k) c.loop-step.now.each.items) all c.loop-step.invariant.times;
    }
