use Rattle.test_nodes.proofs.FewOrders.{room_left}
use Rattle.test_nodes.proofs.whole_runs.undergo.Goals as goal

pub returns-in-Step-clause-room : goal.returns-in-Step-clause-room
returns-in-Step-clause-room g c =
    room_left c.args.node.now.setup c.args.node.now.node c.new.result c.copy_of_event.result c.args.node.now c.step.new.self (g.R.Radio.told c.args.radio.now)
    (g.R.Radio.told c.step.new.radio)
    c.step.ensures.row
