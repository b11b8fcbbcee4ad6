use Rattle.std.proofs.Common.{sym, subst}
use Rattle.lwb_base.specs.Messages.{Ask}
use Rattle.lwb_member.specs.Planning.{IsEarly}
use Rattle.lwb_member.proofs.Answering.{request_early}
use Rattle.lwb_member.proofs.planning.serve_one.Goals as goal

pub returns-in-Some-clause-early : goal.returns-in-Some-clause-early
returns-in-Some-clause-early c =
    let ask : Ask = record { node = c.node.result; boot = c.args.boot; stream = c.stream-stream.result; interval = c.in-Some.interval } in
    subst (IsEarly c.args.frame) (sym c.request.ensures.after) (request_early c.args.frame c.args.table.now ask c.requires.early)
