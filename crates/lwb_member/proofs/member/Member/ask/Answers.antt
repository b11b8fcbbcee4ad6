use Rattle.std.proofs.Common.{ℕ}
use Rattle.lwb_base.specs.Messages.{Ask}
use Rattle.bus_rules.specs.Slots.{is_own}
use Rattle.bus_rules.specs.Streams.{requested, stream_at}
use Rattle.lwb_member.proofs.Told.{told_asked}
use Rattle.lwb_member.proofs.member.Member.ask.Goals as goal

pub returns-clause-told : goal.returns-clause-told
returns-clause-told c =
    let m = c.args.self.now in
    let of_stream : ℕ → Ask = λ i. record { node = m.setup.id; boot = m.core.boot; stream = i; interval = (stream_at m.core.streams i).wish } in
    told_asked (is_own m.core.own_slot c.args.own) of_stream (requested m.core.streams) 1 c.request.result c.request.ensures.packet c.request.ensures.said
