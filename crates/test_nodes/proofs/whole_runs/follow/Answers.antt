use Rattle.std.proofs.Common.{◌≡◌, ◌+◌, ◌∷◌, ◌++◌, [], List, Option, take, sym, ◌∙◌, ap, arith}
use Rattle.std.proofs.lemmas.List.{take_more, append_assoc}
use Rattle.lwb_base.specs.declared.order.Order.{Order}
use Rattle.bus_rules.specs.declared.delivery.Delivery.{Delivery}
use Rattle.bus_rules.specs.Cores.{Setup}
use Rattle.node_core.specs.Nodes.{Node}
use Rattle.test_nodes.specs.declared.call.Call.{Call}
use Rattle.test_nodes.specs.Calls.{after_call, after_calls, delivery_after, delivery_after_calls, orders_of, orders_of_all}
use Rattle.test_nodes.proofs.FewOrders.{calls_push, deliveries_push, orders_push}
use Rattle.test_nodes.proofs.whole_runs.follow.Goals as goal

pub loop-call-preserved : goal.loop-call-preserved
loop-call-preserved g c =
    let s : Setup = c.args.node.now.setup in
    let n : Node = c.args.node.now.node in
    let d : Option Delivery = c.args.node.now.delivery in
    let done : List Call = take c.loop-call.call-index c.args.calls.now in
    let call : Call = c.call-item.result in
    let more : take (c.loop-call.call-index + 1) c.args.calls.now ≡ done ++ call ∷ [] =
    take_more c.args.calls.now c.loop-call.call-index call c.loop-call-test.true ∙ ap (λ (x : Call). done ++ x ∷ []) (sym c.call-item.is) in
    record {
      node =
          c.undergo.ensures.node ∙ ap (λ (t : Setup). after_call t c.loop-call.node.node call) c.loop-call.invariant.setup
          ∙ ap (λ (m : Node). after_call s m call) c.loop-call.invariant.node
          ∙ sym (calls_push s n done call) ∙ ap (after_calls s n) (sym more);
      orders = c.undergo.ensures.orders ∙ ap (λ (l : List Order). l ++ orders_of c.loop-call.node.setup c.loop-call.node.node call) c.loop-call.invariant.orders
          ∙ ap (λ (t : Setup). (g.R.Radio.told c.args.radio.now).given ++ orders_of_all s n done ++ orders_of t c.loop-call.node.node call)
          c.loop-call.invariant.setup
          ∙ ap (λ (m : Node). (g.R.Radio.told c.args.radio.now).given ++ orders_of_all s n done ++ orders_of s m call) c.loop-call.invariant.node
          ∙ append_assoc (g.R.Radio.told c.args.radio.now).given (orders_of_all s n done) (orders_of s (after_calls s n done) call)
          ∙ ap (λ (l : List Order). (g.R.Radio.told c.args.radio.now).given ++ l) (sym (orders_push s n done call) ∙ ap (orders_of_all s n) (sym more));
      delivery =
          c.undergo.ensures.delivery ∙ ap (λ (t : Setup). delivery_after t c.loop-call.node.node c.loop-call.node.delivery call) c.loop-call.invariant.setup
          ∙ ap (λ (m : Node). delivery_after s m c.loop-call.node.delivery call) c.loop-call.invariant.node
          ∙ ap (λ (o : Option Delivery). delivery_after s (after_calls s n done) o call) c.loop-call.invariant.delivery
          ∙ sym (deliveries_push s n d done call) ∙ ap (delivery_after_calls s n d) (sym more);
      setup = c.undergo.ensures.setup ∙ c.loop-call.invariant.setup;
      room = (let left = c.undergo.ensures.room in let had = c.loop-call.invariant.room in omega arith);
    }
