use Rattle.std.proofs.Common.{◌≡◌, Option, true, is_some, sym, ◌∙◌, ap}
use Rattle.std.specs.Option.{option_map_or, option_and_then}
use Rattle.bus_rules.specs.Slots.{message_length}
use Rattle.lwb_member.specs.Said.{message_of, meaning}
use Rattle.plain_bus.proofs.ReadLengths.{read_long, some_mapped}
use Rattle.plain_bus.proofs.charging.length_of.Goals as goal

pub returns-in-Some : goal.returns-in-Some
returns-in-Some c =
    let p = c.in-Some.packet in
    let reads : is_some (message_of p) ≡ true = ap is_some (sym c.message_in.ensures.value) ∙ some_mapped meaning c.message_in.result ∙ sym c.is_some.ensures
    ∙ c.if-is_some.true in
    c.length.ensures.value ∙ sym (read_long p reads) ∙ ap (λ (o : Option _). option_map_or message_length (option_and_then message_of o) 0) (sym c.in-Some.is)
