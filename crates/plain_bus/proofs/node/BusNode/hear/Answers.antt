use Rattle.std.proofs.Common.{◌≡◌, ◌++◌, Option, Some, option_to_list, sym, ◌∙◌, ap}
use Rattle.std.specs.Option.{option_and_then, option_copied}
use Rattle.std.proofs.lemmas.Result.{on_ok_weaker}
use Rattle.bus_rules.specs.Slots.{DataOf, Message}
use Rattle.lwb_member.specs.Said.{meaning, message_of}
use Rattle.lwb_member.specs.declared.message.Heard.{Heard}
use Rattle.plain_bus.specs.SlotFloods.{data_said, seen_window, node_closed, node_delivers}
use Rattle.plain_bus.proofs.node.BusNode.hear.Goals as goal

-- the packet says what was read
says : (c : goal.After-deliver) → Some (DataOf (data_said c.in-Some-Data.read)) ≡ option_and_then message_of (option_copied c.args.packet)
says c =
    ap (λ (h : Heard). Some (meaning h)) (sym c.in-Some-Data.field-0-is) ∙ c.in-Some-Data.ensures.value
    ∙ ap (λ (o : Option _). option_and_then message_of (option_copied o)) (sym c.in-Some.is)

pub returns-in-Some-Data-clause-state : goal.returns-in-Some-Data-clause-state
returns-in-Some-Data-clause-state c =
    let f = c.args.slot.now.frame in
    let part = c.args.slot.now.part in
    let w = seen_window c.args.window.now in
    on_ok_weaker c.deliver.result (λ made may. made w ∙ ap (λ (m : Option Message). node_closed f part w m c.args.self.now) (says c)) c.deliver.ensures.state

pub returns-in-Some-Data-clause-log : goal.returns-in-Some-Data-clause-log
returns-in-Some-Data-clause-log c =
    let slot = c.args.slot.now in
    let w = seen_window c.args.window.now in
    on_ok_weaker c.deliver.result (λ made may. made w
    ∙ ap (λ (m : Option Message). c.args.log.now.items ++ option_to_list (node_delivers slot.rank slot.frame slot.number slot.part w m c.args.self.now))
    (says c))
    c.deliver.ensures.log
