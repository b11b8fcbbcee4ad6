-- What is sent in a slot is what its owner's node says there, and what is delivered in a slot was sent in it.
use Rattle.std.proofs.Common.{◌≡◌, ℕ, Option, Some, None, is_some, option_and_then, refl, sym, ◌∙◌, ap, subst}
use Rattle.lwb_base.specs.Messages.{Plan, node_of}
use Rattle.scenario_text.specs.ScenarioParts.{ScenarioParts}
use Rattle.bus_rules.specs.declared.delivery.Delivery.{Delivery}
use Rattle.bus_rules.specs.declared.part.Part.{Part}
use Rattle.bus_rules.specs.declared.part.Part.TheVariants.{Opening, Data as DataSlot, Contention, Closing}
use Rattle.bus_rules.specs.Slots.{Data, DataOf, Message, RequestOf, ScheduleOf, delivery_of, part_of}
use Rattle.bus_rules.specs.States.{State}
use Rattle.bus_terms.specs.Flooding.{accepted}
use Rattle.bus_terms.specs.Packets.{packet_of, packet_said, sent_by_owner, sent_in_slot}
use Rattle.bus_terms.specs.Rounds.{Slot, accepted_at, before_slot, delivery_in_slot, message_said, opened_at, slot_at}
use Rattle.bus_terms.specs.declared.packets.SentPacket.{SentPacket}
use Rattle.bus_terms.proofs.NumbersSaid.{Says, says}
use Rattle.bus_terms.proofs.OrderedDeliveries.{mapped}
use Rattle.bus_terms.proofs.OrderedDeliveries.{accepted_data, said_somewhere}
use Rattle.bus_terms.proofs.SaidByParts.{owner_alone}
use Rattle.law_packets.specs.Sendings.{sending_of}

module _ (s : ScenarioParts) (rank f : ℕ) (p : Plan) (states : ℕ → State) (j : ℕ) where
  abbrev x : Slot
  x = slot_at s rank f p states j

  abbrev before : ℕ → State
  before = before_slot s rank f p states j

  abbrev Sends : ℕ → Data → Type 0
  Sends v d = Says s rank f (part_of p j) v (before v) d

  -- t is sent in slot j: the owner's node says its packet
  pub record IsSentIn (t : SentPacket) : Type 0 where
    pub packet : Data
    pub said : Sends packet.node packet
    pub is : t ≡ record { frame = f; rank = rank; slot = j; packet = packet_of packet }

  said_by_node : (v : ℕ) (d : Data) → message_said (x.window v) ≡ Some (DataOf d) → Sends d.node d
  said_by_node v d is =
      let said = says s rank f (part_of p j) v (before v) d is in
      subst (λ (u : ℕ). Sends u d) (sym said.said.of_node) said

  pub sent_so : (t : SentPacket) → sent_in_slot s rank f p states j ≡ Some t → IsSentIn t
  sent_so t is = by_part (part_of p j) is
    where
      by_message : (v : ℕ) (m : Option Message) → message_said (x.window v) ≡ m → option_and_then (packet_said rank f j) m ≡ Some t → IsSentIn t
      by_message v None said is = absurd (cc)
      by_message v (Some (ScheduleOf y)) said is = absurd (cc)
      by_message v (Some (DataOf d)) said is = record { packet = d; said = said_by_node v d said; is = cc }
      by_message v (Some (RequestOf a)) said is = absurd (cc)

      by_part : (part : Part) → sent_by_owner rank f j part x.window ≡ Some t → IsSentIn t
      by_part Opening is = absurd (cc)
      by_part (DataSlot owner) is = by_message (node_of owner) (message_said (x.window (node_of owner))) refl is
      by_part (Contention i) is = absurd (cc)
      by_part Closing is = absurd (cc)

  -- what somebody says in the slot its owner's node says
  pub owner_says : (v : ℕ) (d : Data) → message_said (x.window v) ≡ Some (DataOf d)
      → sent_in_slot s rank f p states j ≡ Some (record { frame = f; rank = rank; slot = j; packet = packet_of d })
  owner_says v d is =
      let slot = (says s rank f (part_of p j) v (before v) d is).slot in
      let there : message_said (opened_at s rank f (DataSlot slot.0) v (before v)) ≡ Some (DataOf d) =
      ap (λ (part : Part). message_said (opened_at s rank f part v (before v))) (sym slot.1) ∙ is in
      let own : v ≡ node_of slot.0 = owner_alone s rank f slot.0 v (before v) (ap (λ (m : Option Message). is_some m) there) in
      ap (λ (part : Part). sent_by_owner rank f j part x.window) slot.1
      ∙ ap (option_and_then (packet_said rank f j)) (ap (λ (u : ℕ). message_said (x.window u)) (sym own) ∙ is)

  pub delivered_was_sent : (v : ℕ) (a : Delivery) → delivery_in_slot s rank f p states j v ≡ Some a → sent_in_slot s rank f p states j ≡ Some (sending_of a)
  delivered_was_sent v a is =
      let found = mapped (delivery_of v f rank j) _ a is in
      let d = found.0 in
      let heard = accepted_data s f x.part v (x.window v) (accepted_at x v) (before v) d found.1 in
      let by = said_somewhere x (accepted x.flood v) (DataOf d) heard in
      owner_says by.0 d by.1 ∙ ap (λ (b : Delivery). Some (sending_of b)) found.2
