-- In a slot of a round one flood begins, or several of requests.
use Rattle.std.proofs.Common.{◌≡◌, ℕ, ◌⊎◌, inl, inr, List, Bool, Some, None, Option, refl, sym, ◌∙◌, ap, subst}
use Rattle.lwb_base.specs.Messages.{Plan, node_of}
use Rattle.bus_rules.specs.declared.part.Part.{Part}
use Rattle.bus_rules.specs.declared.part.Part.TheVariants.{Opening, Data as DataSlot, Contention, Closing}
use Rattle.bus_rules.specs.Slots.{Message, ScheduleOf, DataOf, RequestOf, part_of}
use Rattle.lwb_member.specs.Said.{message_of}
use Rattle.scenario_text.specs.ScenarioParts.{ScenarioParts}
use Rattle.radio_model.specs.declared.sending.Sending.{Sending}
use Rattle.radio_model.specs.Hearing.{frame_of_sending, slot_of_sending}
use Rattle.air_log.specs.declared.entry.Entry.{Entry}
use Rattle.air_log.specs.Safe.{SameSlot, sender_hosts}
use Rattle.law_safety.specs.Beginnings.{MaySay}
use Rattle.law_safety.specs.FloodSendings.{BeginsFlood, IsOfFlood}
use Rattle.law_safety.specs.SentPlans.{IsHostOf, IsPlanned}
use Rattle.law_safety.proofs.RunFacts.{host_is}
use Rattle.law_safety.specs.Endings.{EndsInOrder}
use Rattle.law_safety.specs.SlotLaws.{AsksForStream}
use Rattle.law_safety.proofs.RunSendings.{begun_once}
use Rattle.law_safety.proofs.SentPlans.{one_planned}

module _ (s : ScenarioParts) (air : List Entry) where
  -- what slot j of the round of a rank and frame is for: the opening, or by the plan that was sent
  abbrev IsPartOf : ℕ → ℕ → ℕ → Part → Type 0
  IsPartOf rank frame j part =
      ((j ≡ 0) × (part ≡ Opening)) ⊎ ((plan : Plan) × IsPlanned s air rank frame plan × (part_of plan j ≡ part))

  -- whose it is, by what it is for
  abbrev MayTake : ℕ → ℕ → Option Message → Part → Type 0
  MayTake rank v m Opening = IsHostOf s rank v
  MayTake rank v m (DataSlot owner) = node_of owner ≡ v
  MayTake rank v m (Contention place) = AsksForStream m
  MayTake rank v m Closing = IsHostOf s rank v

  record HasSlot (rank frame j v : ℕ) (m : Option Message) : Type 0 where
    part : Part
    is : IsPartOf rank frame j part
    takes : MayTake rank v m part

  -- two that may take one slot are one, or both ask
  one_taker : (rank v u : ℕ) (m n : Option Message) (part : Part) → MayTake rank v m part → MayTake rank u n part
      → (v ≡ u) ⊎ (AsksForStream m × AsksForStream n)
  one_taker rank v u m n Opening first second = inl (sym (host_is s rank v first) ∙ host_is s rank u second)
  one_taker rank v u m n (DataSlot owner) first second = inl (sym first ∙ second)
  one_taker rank v u m n (Contention place) first second = inr (first, second)
  one_taker rank v u m n Closing first second = inl (sym (host_is s rank v first) ∙ host_is s rank u second)

module _ (s : ScenarioParts) (clocks : ℕ → ℕ → ℕ) (air : List Entry) where
  has_slot : (v rank f z j : ℕ) (hosting : Bool) (m : Option Message) → MaySay s clocks air v rank f z j hosting m → HasSlot s air rank f j v m
  has_slot v rank f z j hosting None says = absurd says
  has_slot v rank f z j hosting (Some (ScheduleOf y)) says = elim says.part [
    | inl opens ↦ record { part = Opening; is = inl (opens.1, refl); takes = says.host }
    | inr closes ↦ record { part = Closing; is = inr (closes.plan, closes.planned, closes.part); takes = says.host }
  ]
  has_slot v rank f z j hosting (Some (DataOf d)) says =
      record { part = DataSlot says.owner; is = inr (says.plan, says.planned, says.part); takes = says.node }
  has_slot v rank f z j hosting (Some (RequestOf a)) says =
      record { part = Contention says.place; is = inr (says.plan, says.planned, says.part); takes = (a, refl) }

  module _ (whole : EndsInOrder s clocks air) where
    one_part : (rank f j : ℕ) (P Q : Part) → IsPartOf s air rank f j P → IsPartOf s air rank f j Q → P ≡ Q
    one_part rank f j P Q (inl a) (inl b) = a.1 ∙ sym b.1
    one_part rank f j P Q (inl a) (inr b) = a.1 ∙ sym (ap (part_of b.0) a.0) ∙ b.2
    one_part rank f j P Q (inr a) (inl b) = sym a.2 ∙ ap (part_of a.0) b.0 ∙ sym b.1
    one_part rank f j P Q (inr a) (inr b) =
        sym a.2 ∙ ap (λ (p : Plan). part_of p j) (one_planned s clocks air whole rank f a.0 b.0 a.1 b.1) ∙ b.2

    one_of_slot : (rank f j v u : ℕ) (m n : Option Message) → HasSlot s air rank f j v m → HasSlot s air rank f j u n
        → (v ≡ u) ⊎ (AsksForStream m × AsksForStream n)
    one_of_slot rank f j v u m n first second =
        one_taker s air rank v u m n second.part
        (subst (MayTake s air rank v m) (one_part rank f j first.part second.part first.is second.is) first.takes) second.takes

    begun_slot : (z : ℕ) (x : Sending) → BeginsFlood s clocks air z x
        → HasSlot s air x.rank (frame_of_sending s.profile x) (slot_of_sending x) x.node (message_of x.packet)
    begun_slot z x begins =
        has_slot x.node x.rank (frame_of_sending s.profile x) z (slot_of_sending x) (sender_hosts s clocks air x) (message_of x.packet) begins.start.says

    -- two beginnings in one slot are one, or both are requests
    pub one_beginning : (zx zy : ℕ) (x y : Sending) → BeginsFlood s clocks air zx x → BeginsFlood s clocks air zy y → SameSlot s.profile x y
        → (x ≡ y) ⊎ (AsksForStream (message_of x.packet) × AsksForStream (message_of y.packet))
    one_beginning zx zy x y first second same =
        let there = begun_slot zy y second in
        let here : HasSlot s air x.rank (frame_of_sending s.profile x) (slot_of_sending x) y.node (message_of y.packet) =
        subst (λ (r : ℕ). HasSlot s air r (frame_of_sending s.profile x) (slot_of_sending x) y.node (message_of y.packet)) (sym same.channel)
        (subst (λ (f : ℕ). HasSlot s air y.rank f (slot_of_sending x) y.node (message_of y.packet)) (sym same.frame)
        (subst (λ (j : ℕ). HasSlot s air y.rank (frame_of_sending s.profile y) j y.node (message_of y.packet)) (sym same.slot) there)) in
        elim (one_of_slot x.rank (frame_of_sending s.profile x) (slot_of_sending x) x.node y.node (message_of x.packet) (message_of y.packet)
        (begun_slot zx x first) here) [
          | inl node ↦ inl (begun_once s clocks air whole zx zy x y first second same node)
          | inr both ↦ inr both
        ]

    -- so two transmissions of one slot are of one flood, or both are of requests
    pub origins_same : (x y : Sending) (is : IsOfFlood s clocks air x) (also : IsOfFlood s clocks air y) → SameSlot s.profile x y
        → SameSlot s.profile is.origin also.origin
    origins_same x y is also same = record {
      channel = sym is.slot.channel ∙ same.channel ∙ also.slot.channel;
      frame = sym is.slot.frame ∙ same.frame ∙ also.slot.frame;
      slot = sym is.slot.slot ∙ same.slot ∙ also.slot.slot;
    }

    pub one_flood : (x y : Sending) (is : IsOfFlood s clocks air x) (also : IsOfFlood s clocks air y) → SameSlot s.profile x y
        → (is.origin ≡ also.origin) ⊎ (AsksForStream (message_of is.origin.packet) × AsksForStream (message_of also.origin.packet))
    one_flood x y is also same = one_beginning is.zero also.zero is.origin also.origin is.begins also.begins (origins_same x y is also same)
