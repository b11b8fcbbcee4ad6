use Rattle.std.proofs.Common.{◌≡◌, ℕ, Option, None, Some, is_some, false, inl, inr, refl, sym, ◌∙◌, ap}
use Rattle.std.specs.Option.{option_and_then, option_copied}
use Rattle.std.proofs.lemmas.Bool.{cases_Bool, false≢true}
use Rattle.bus_rules.specs.declared.part.Part.{Part}
use Rattle.bus_terms.specs.Flooding.{has}
use Rattle.bus_terms.specs.Packets.{packet_said, sent_by_owner}
use Rattle.bus_terms.specs.Rounds.{message_said}
use Rattle.lwb_member.specs.Said.{message_of}
use Rattle.plain_bus.specs.Closings.{Behind}
use Rattle.plain_bus.specs.SlotFloods.{seen_by}
use Rattle.plain_bus.proofs.sent.sent_in.Goals as goal

pub returns-in-Data : goal.returns-in-Data
returns-in-Data c states window are shut =
    let slot = c.args.slot.now in
    let v = c.node.result in
    let b : Behind = record { window = λ u. seen_by slot.rank slot.part (states u) (window u); first = λ u. None } in
    let said : option_and_then message_of (option_copied c.said_by.result) ≡ message_said (window v) = elim (cases_Bool (has c.args.ids.now v)) [
      | inl there ↦ c.said_by.ensures.known b are there
      | inr out ↦ silent c.said_by.result (c.said_by.ensures.unknown out) ∙ sym (ap message_said (shut v out))
    ] in
    c.said_packet.ensures ∙ ap (option_and_then (packet_said slot.rank slot.frame slot.number)) said
    ∙ ap (λ (u : ℕ). option_and_then (packet_said slot.rank slot.frame slot.number) (message_said (window u))) c.node.ensures
    ∙ sym (ap (λ (q : Part). sent_by_owner slot.rank slot.frame slot.number q window) c.in-Data.is)
  where
    silent : (o : Option _) → is_some o ≡ false → option_and_then message_of (option_copied o) ≡ None
    silent None is = refl
    silent (Some p) is = absurd (false≢true (sym is))
