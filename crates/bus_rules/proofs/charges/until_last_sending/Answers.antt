use Rattle.std.proofs.Common.{◌+◌, ◌*◌, arith, ap}
use Rattle.bus_rules.proofs.SmallSendings.{small_sending}
use Rattle.bus_rules.proofs.charges.until_last_sending.Goals as goal

pub returns-clause-small : goal.returns-clause-small
returns-clause-small c short =
    let small = small_sending c.args.profile.now c.from.result c.args.bytes c.listen.ensures.made (omega (arith, c.from.ensures)) short in
    let times = ap (λ x. (c.from.result + 1) * x) c.step.ensures.value in
    omega (arith, small, times, c.listen.ensures.value, c.turn.ensures.value)
