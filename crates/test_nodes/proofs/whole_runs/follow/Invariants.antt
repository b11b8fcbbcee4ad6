use Rattle.std.proofs.Common.{◌≡◌, ◌+◌, ◌*◌, ◌≤◌, ◌++◌, take, length}
use Rattle.test_nodes.specs.Calls.{after_calls, delivery_after_calls, orders_of_all}
use Rattle.test_nodes.proofs.whole_runs.follow.Given as goal

abbrev pub invariant-loop-call : goal.invariant-loop-call
invariant-loop-call g l = record {
  node : l.node.node ≡ after_calls l.fn.node.setup l.fn.node.node (take l.call-index l.calls);
  orders : (g.R.Radio.told l.radio).given ≡ (g.R.Radio.told l.fn.radio).given ++ orders_of_all l.fn.node.setup l.fn.node.node (take l.call-index l.calls);
  delivery : l.node.delivery ≡ delivery_after_calls l.fn.node.setup l.fn.node.node l.fn.node.delivery (take l.call-index l.calls);
  setup : l.node.setup ≡ l.fn.node.setup;
  room : 4 * length l.calls ≤ (g.R.Radio.told l.radio).room + 4 * l.call-index;
}
