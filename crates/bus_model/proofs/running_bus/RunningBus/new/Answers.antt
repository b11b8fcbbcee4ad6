use Rattle.std.proofs.Common.{◌*◌, subst, sym, ◌∙◌, ap}
use Rattle.scenario_text.specs.OverLines.{over}
use Rattle.plain_bus.specs.Networks.{Network, IsReady}
use Rattle.bus_model.proofs.FramesInTurn.{nodes_off, power_off, ready_off, cut_off}
use Rattle.bus_model.proofs.running_bus.RunningBus.new.Goals as goal

pub returns : goal.returns
returns c t =
    let s = over c.args.s.now t in
    let net = c.in_ok-new.ensures in
    record {
      at = record {
        nodes_are = ap (λ (n : Network). n.nodes) net ∙ nodes_off s;
        costs_are = ap (λ (n : Network). n.costs) net;
        delivered = ap (λ (n : Network). n.deliveries) net;
        sent = ap (λ (n : Network). n.sent) net;
        ready = subst (IsReady s 0 (0 * 184)) (sym net) (ready_off s);
      };
      cut = cut_off s;
      have = power_off s;
      put = c.new-2.ensures.items;
    }
