use Rattle.std.proofs.Common.{◌≡◌, ◌≢◌, arith}
use Rattle.node_streams.proofs.Hearing.{opening_heard, closing_heard}
use Rattle.node_streams.proofs.streams.Streams.schedule_heard.Goals as goal

pub returns-then-s-gt0 : goal.returns-then-s-gt0
returns-then-s-gt0 c =
    let some : c.s.inside.gap ≢ 0 = omega arith in
    rw (← c.s.view_is) (closing_heard c.args.node c.args.boot c.args.frame _ c.args.self.now _ _ _ c.hear_host.ensures c.hear_acks.ensures c.hear_owners.ensures
    c.forget.new.self some c.forget.ensures)

pub returns-else-s-gt0 : goal.returns-else-s-gt0
returns-else-s-gt0 c =
    let none : c.s.inside.gap ≡ 0 = omega arith in
    rw (← c.s.view_is)
    (opening_heard c.args.node c.args.boot c.args.frame _ c.args.self.now _ _ _ c.hear_host.ensures c.hear_acks.ensures c.hear_owners.ensures none)
