use Rattle.std.proofs.Common.{◌≡◌, ◌++◌, ℕ, List, flat_map, length, refl, subst, sym, ◌∙◌, ap, arith}
use Rattle.std.specs.List.{range_with_len}
use Rattle.link_trace.specs.Passes.{Lines}
use Rattle.link_trace.specs.declared.lines.LoseLine.{LoseLine}
use Rattle.scenario_text.specs.ScenarioParts.{ScenarioParts}
use Rattle.bus_terms.specs.Bus.{state_at}
use Rattle.bus_terms.specs.FloodOfText.{ids}
use Rattle.scenario_text.specs.OverLines.{over}
use Rattle.plain_bus.specs.FloodMasks.{traced}
use Rattle.plain_bus.specs.RunFloods.{AreRunFloods, HasRun}
use Rattle.plain_bus.specs.declared.station.Flood.{Flood}
use Rattle.plain_bus.proofs.SoundOver.{sound_over}
use Rattle.bus_model.proofs.SlotsInTurn.{flat_more}
use Rattle.bus_model.specs.declared.running_bus.RunningBus.{RunningBus}
use Rattle.bus_model.specs.FrameFloods.{frame_floods}
use Rattle.drawn_losses.specs.StepLosses.{HaveSameCaptures, losses_of_floods, losses_of_frame}
use Rattle.drawn_losses.proofs.FloodsInTurn.{frame_lost}
use Rattle.drawn_losses.proofs.run_losses.losses_in_run.Goals as goal

pub loop-frame-init : goal.loop-frame-init
loop-frame-init g c = record {
  before = rw c.new-scenario.ensures (c.in_ok-bus.ensures (g.M.Links.lines c.args.links.now));
  found = c.new-lines.ensures.items;
}

pub run_frame-requires-clause-few : goal.run_frame-requires-clause-few
run_frame-requires-clause-few g c = (sound_over c.new-scenario.result c.frames-frame-end.ensures.said).few_frames

pub losses_in_frame-requires : goal.losses_in_frame-requires
losses_in_frame-requires g c =
    let few = (sound_over c.new-scenario.result c.frames-frame-end.ensures.said).few_nodes in
    record {
      sealed = c.requires.sealed ∙ ap ids (sym c.nodes-nodes.ensures.value);
      few = omega (arith, few, ap (λ (x : ScenarioParts). length x.nodes) c.new-scenario.ensures, ap length c.nodes-nodes.ensures.value);
      same = c.trace.ensures.sealed ∙ sym c.requires.sealed;
      captures = subst (λ (t : Lines). HaveSameCaptures t (g.M.Links.lines c.args.links.now)) (sym c.trace.ensures.value) c.requires.captures;
    }

pub loop-frame-preserved : goal.loop-frame-preserved
loop-frame-preserved g c =
    let s = c.args.s.now in
    let lines = g.M.Links.lines c.args.links.now in
    let nodes = g.M.Links.nodes c.args.links.now in
    let d = over s lines in
    let f = c.loop-frame.frame in
    let floods = c.run_frame.new.self.net.floods in
    let ran : AreRunFloods (traced lines nodes) f (frame_floods d f (state_at d f)) c.deref.result.now =
    subst (λ (xs : List Flood). AreRunFloods (traced lines nodes) f (frame_floods d f (state_at d f)) xs)
    (sym (c.deref.ensures.value ∙ ap (λ (b : RunningBus). b.net.floods) c.bus.view_is))
    (subst (λ (ns : List ℕ). AreRunFloods (traced lines ns) f (frame_floods d f (state_at d f)) floods) (sym c.requires.sealed)
    (subst (λ (x : ScenarioParts). HasRun x f (frame_floods x f (state_at x f)) floods) c.new-scenario.ensures c.in_ok-run_frame.ensures.floods)) in
    record {
      before = c.in_ok-run_frame.ensures.after;
      found =
          c.in_ok-losses_in_frame.ensures f (frame_floods d f (state_at d f)) ran
          ∙ ap (λ (t : Lines). c.loop-frame.lines.items ++ losses_of_floods t f nodes (frame_floods d f (state_at d f))) c.trace.ensures.value
          ∙ ap (λ (ns : List ℕ). c.loop-frame.lines.items ++ losses_of_floods s.trace f ns (frame_floods d f (state_at d f))) c.requires.sealed
          ∙ ap (λ (l : List LoseLine). c.loop-frame.lines.items ++ l) (frame_lost s d f refl)
          ∙ ap (λ (l : List LoseLine). l ++ losses_of_frame s d f) c.loop-frame.invariant.found
          ∙ sym (flat_more (losses_of_frame s d) f);
    }

pub returns : goal.returns
returns g c =
    let s = c.args.s.now in
    let scenario = c.new-scenario.result in
    let all : c.loop-frame.frame ≡ s.frames = omega (
      arith,
      c.loop-frame-test.false,
      c.loop-frame.auto.frame-end,
      c.frames-frame-end.ensures.value,
      ap (λ (x : ScenarioParts). x.frames) c.new-scenario.ensures,
    ) in
    c.loop-frame.invariant.found
    ∙ ap (λ (n : ℕ). flat_map (losses_of_frame s (over s (g.M.Links.lines c.args.links.now))) (range_with_len 0 n)) all
