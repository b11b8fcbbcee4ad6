use Rattle.std.proofs.Common.{◌≡◌, ℕ, filter_map, length, subst, sym, ◌∙◌, ap, arith}
use Rattle.std.proofs.lemmas.Result.{IfOk-weaker}
use Rattle.std.specs.List.{enumerate_from}
use Rattle.scenario_text.specs.ScenarioParts.{ScenarioParts}
use Rattle.scenario_text.specs.OverLines.{over}
use Rattle.bus_terms.specs.Packets.{bus_puts}
use Rattle.plain_bus.proofs.SlotsMet.{ids_ascend, ids_each}
use Rattle.plain_bus.proofs.SoundOver.{sound_over}
use Rattle.bus_model.specs.BusRuns.{BusRun, IsBusRun}
use Rattle.bus_model.specs.DroppedPuts.{drop_of}
use Rattle.bus_model.specs.RunningBuses.{IsBeforeFrame}
use Rattle.bus_model.proofs.DroppedLines.{dropped_all}
use Rattle.bus_model.proofs.FramesInTurn.{script_over}
use Rattle.bus_model.proofs.bus.Bus.run_over.Goals as goal

pub loop-frame-init : goal.loop-frame-init
loop-frame-init g c = rw c.new-scenario.ensures (c.in_ok-run.ensures (g.M.Links.lines c.args.links.now))

pub run_frame-requires-clause-few : goal.run_frame-requires-clause-few
run_frame-requires-clause-few g c = (sound_over c.new-scenario.result c.frames-frame-end.ensures.said).few_frames

pub left_by-requires-clause-ascending : goal.left_by-requires-clause-ascending
left_by-requires-clause-ascending g c =
    ids_ascend c.new-scenario.result c.frames-frame-end.ensures.said c.loop-frame.run.net.ids c.loop-frame.invariant.at.ready.ids_are

pub left_by-requires-clause-costs : goal.left_by-requires-clause-costs
left_by-requires-clause-costs g c =
    let ready = c.loop-frame.invariant.at.ready in
    ready.costs_each ∙ sym (ap length ready.ids_are ∙ ids_each c.new-scenario.result)

pub returns : goal.returns
returns g c =
    let s = c.new-scenario.result in
    let all : c.loop-frame.frame ≡ s.frames = omega (arith, c.loop-frame-test.false, c.loop-frame.auto.frame-end, c.frames-frame-end.ensures.value) in
    let ended : IsBeforeFrame s s.frames c.loop-frame.run = subst (λ (f : ℕ). IsBeforeFrame s f c.loop-frame.run) all c.loop-frame.invariant in
    let net = c.loop-frame.run.net in
    let puts = c.loop-frame.run.puts.items in
    let left : BusRun = record {
      ids = net.ids;
      costs = net.costs;
      deliveries = net.deliveries;
      drops = filter_map drop_of puts;
      puts = puts;
      sent = net.sent;
    } in
    let put : puts ≡ bus_puts s = ended.put ∙ script_over s c.frames-frame-end.ensures.said c.loop-frame.run.told ended.cut in
    let run : IsBusRun s left = record {
      nodes = ended.at.ready.ids_are;
      each_cost = ended.at.costs_are;
      delivered = ended.at.delivered;
      lost = ap (filter_map drop_of) put ∙ dropped_all s (enumerate_from 0 s.script);
      put = put;
      sent = ended.at.sent;
    } in
    IfOk-weaker c.left_by.result (λ (b : BusRun). b ≡ left) (IsBusRun (over c.args.s.now (g.M.Links.lines c.args.links.now)))
    (λ b is. subst (λ (x : ScenarioParts). IsBusRun x b) c.new-scenario.ensures (subst (IsBusRun s) (sym is) run)) c.left_by.ensures
