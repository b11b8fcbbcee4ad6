use Rattle.std.proofs.Common.{◌≡◌, ◌++◌, ◌∷◌, [], Option, option_to_list, rules, append-nil, sym, ◌∙◌, ap}
use Rattle.bus_terms.specs.declared.packets.SentPacket.{SentPacket}
use Rattle.plain_bus.proofs.sent.add_sent.Goals as goal

pub returns-in_ok-push : goal.returns-in_ok-push
returns-in_ok-push c states window are shut =
    let log = c.args.log.now.items in
    let pushed : c.push.new.self.items ≡ log ++ c.in-Some.sent ∷ [] = search rules in
    pushed ∙ ap (λ (o : Option SentPacket). log ++ option_to_list o) (sym c.in-Some.is ∙ c.sent_in.ensures states window are shut)

pub returns-in_default : goal.returns-in_default
returns-in_default c states window are shut =
    let log = c.args.log.now.items in
    sym (append-nil log) ∙ ap (λ (o : Option SentPacket). log ++ option_to_list o) (sym c.in_default.is ∙ c.sent_in.ensures states window are shut)
