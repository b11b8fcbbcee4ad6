-- What is sent later of one stream of one boot has a greater number, so no packet is sent twice.
use Rattle.std.proofs.Common.{◌≡◌, ℕ, ◌+◌, ◌<◌, List, [], ◌∷◌, false, Option, Some, None, filter_map, flat_map, inl, inr, length, refl, sym, ◌∙◌}
use Rattle.std.proofs.Common.{ap, arith}
use Rattle.std.proofs.lemmas.Bool.{cases_Bool}
use Rattle.std.specs.List.{AllByRecursion}
use Rattle.std.specs.Option.{option_map_or}
use Rattle.lwb_base.specs.Messages.{Plan}
use Rattle.lwb_base.proofs.Lists.{each_more}
use Rattle.scenario_text.specs.ScenarioParts.{ScenarioParts}
use Rattle.scenario_text.specs.FloodDrafts.{Climbs}
use Rattle.bus_rules.specs.declared.delivery.Delivery.{Delivery}
use Rattle.bus_rules.specs.Plans.{last_slot}
use Rattle.bus_rules.specs.Slots.{delivery_of}
use Rattle.bus_terms.specs.Bus.{InOrder, frames_of, ranks_of, state_at}
use Rattle.bus_terms.specs.Fates.{is_packet, packet_delivered}
use Rattle.bus_terms.specs.Packets.{bus_sent, round_sent, sent_in_slot}
use Rattle.bus_terms.specs.Rounds.{round_plan, slots_of}
use Rattle.bus_terms.specs.declared.packets.PacketId.{PacketId}
use Rattle.bus_terms.specs.declared.packets.SentPacket.{SentPacket}
use Rattle.bus_terms.proofs.ListsInTurn.{each_given, each_of_pieces, given_in_turn, in_turn_pairs, pieces_in_turn, range_in_turn}
use Rattle.bus_terms.proofs.OrderedDeliveries.{IsFrom, IsSaidIn, later_frame, later_slot, other_rank}
use Rattle.bus_terms.proofs.SamePackets.{same_packet}
use Rattle.law_packets.specs.Sendings.{AreSentInOrder, AreSentOnce, InSentOrder}
use Rattle.law_packets.proofs.SentPackets.{sent_so}

-- a packet that is sent, as a delivery of it at no node
pub record IsOf (a : Delivery) (t : SentPacket) : Type 0 where
  pub nowhere : a.node ≡ 0
  pub same : packet_delivered a ≡ t.packet

in_sent_order : (t u : SentPacket) (a b : Delivery) → IsOf a t → IsOf b u → InOrder a b → InSentOrder t u
in_sent_order t u a b first second order node boot stream =
    let less = order (first.nowhere ∙ sym second.nowhere) (both (λ x. x.node) node) (both (λ x. x.boot) boot) (both (λ x. x.stream) stream) in
    let one = ap (λ (x : PacketId). x.seq) first.same in
    let two = ap (λ (x : PacketId). x.seq) second.same in
    omega (arith, less, one, two)
  where
    both : (part : PacketId → ℕ) → part t.packet ≡ part u.packet → part (packet_delivered a) ≡ part (packet_delivered b)
    both part same = ap part first.same ∙ same ∙ sym (ap part second.same)

module _ (s : ScenarioParts) where
  -- said in slot j of the round by this plan, and in a round of this rank and frame
  pub record IsSentBy (rank f : ℕ) (p : Plan) (j : ℕ) (t : SentPacket) : Type 0 where
    pub delivery : Delivery
    pub of : IsOf delivery t
    pub said : IsSaidIn s rank f p j delivery

  record IsSentFrom (rank f : ℕ) (t : SentPacket) : Type 0 where
    delivery : Delivery
    of : IsOf delivery t
    from : IsFrom s rank f delivery

  pub sent_by : (rank f : ℕ) (p : Plan) (j : ℕ) (t : SentPacket) → sent_in_slot s rank f p (state_at s f) j ≡ Some t → IsSentBy rank f p j t
  sent_by rank f p j t is =
      let sent = sent_so s rank f p (state_at s f) j t is in
      record {
        delivery = delivery_of 0 f rank j sent.packet;
        of = record { nowhere = refl; same = ap (λ (u : SentPacket). u.packet) (sym sent.is) };
        said = sent.said;
      }

  in_round : (rank f : ℕ) → Climbs InSentOrder (round_sent s rank f (state_at s f))
  in_round rank f = by_plan (round_plan s rank f (state_at s f))
    where
      by_plan : (p : Option Plan) → Climbs InSentOrder (option_map_or (λ p. filter_map (sent_in_slot s rank f p (state_at s f)) (slots_of p)) p [])
      by_plan None = tt
      by_plan (Some p) =
          given_in_turn (λ j k. j < k) InSentOrder (sent_in_slot s rank f p (state_at s f)) across (slots_of p) (range_in_turn 0 (last_slot p + 1))
        where
          across : (j k : ℕ) → j < k → (t u : SentPacket) → sent_in_slot s rank f p (state_at s f) j ≡ Some t
              → sent_in_slot s rank f p (state_at s f) k ≡ Some u → InSentOrder t u
          across j k less t u first second =
              let one = sent_by rank f p j t first in
              let two = sent_by rank f p k u second in
              in_sent_order t u one.delivery two.delivery one.of two.of (later_slot s rank f p j k less one.delivery two.delivery one.said two.said)

  each_in_round : (rank f : ℕ) → AllByRecursion (IsSentFrom rank f) (round_sent s rank f (state_at s f))
  each_in_round rank f = by_plan (round_plan s rank f (state_at s f)) refl
    where
      by_plan : (p : Option Plan) → round_plan s rank f (state_at s f) ≡ p
          → AllByRecursion (IsSentFrom rank f) (option_map_or (λ p. filter_map (sent_in_slot s rank f p (state_at s f)) (slots_of p)) p [])
      by_plan None is = tt
      by_plan (Some p) is = each_given (IsSentFrom rank f) (sent_in_slot s rank f p (state_at s f)) from (slots_of p)
        where
          from : (j : ℕ) (t : SentPacket) → sent_in_slot s rank f p (state_at s f) j ≡ Some t → IsSentFrom rank f t
          from j t sent =
              let by = sent_by rank f p j t sent in
              record { delivery = by.delivery; of = by.of; from = record { plan = p; planned = is; slot = j; said = by.said } }

  abbrev frame_sent : ℕ → List SentPacket
  frame_sent f = flat_map (λ rank. round_sent s rank f (state_at s f)) (ranks_of s)

  in_frame : (f : ℕ) → Climbs InSentOrder (frame_sent f)
  in_frame f =
      pieces_in_turn (λ r q. r < q) InSentOrder (λ rank t. IsSentFrom rank f t) (λ rank. round_sent s rank f (state_at s f))
      (λ rank. each_in_round rank f) (λ rank. in_round rank f) across (ranks_of s) (range_in_turn 0 (length s.hosts))
    where
      across : (r q : ℕ) → r < q → (t u : SentPacket) → IsSentFrom r f t → IsSentFrom q f u → InSentOrder t u
      across r q less t u one two =
          in_sent_order t u one.delivery two.delivery one.of two.of (other_rank s r q f less one.delivery two.delivery one.from two.from)

  each_in_frame : (f : ℕ) → AllByRecursion (λ t. (rank : ℕ) × IsSentFrom rank f t) (frame_sent f)
  each_in_frame f =
      each_of_pieces (λ t. (rank : ℕ) × IsSentFrom rank f t) (λ rank. round_sent s rank f (state_at s f))
      (λ rank. each_more (IsSentFrom rank f) (λ t. (rank : ℕ) × IsSentFrom rank f t) (λ t is. (rank, is)) _ (each_in_round rank f)) (ranks_of s)

  all_in_turn : Climbs InSentOrder (bus_sent s)
  all_in_turn =
      pieces_in_turn (λ f g. f < g) InSentOrder (λ f t. (rank : ℕ) × IsSentFrom rank f t) frame_sent each_in_frame in_frame across
      (frames_of s) (range_in_turn 0 s.frames)
    where
      across : (f g : ℕ) → f < g → (t u : SentPacket) → ((rank : ℕ) × IsSentFrom rank f t) → ((rank : ℕ) × IsSentFrom rank g u) → InSentOrder t u
      across f g less t u one two =
          in_sent_order t u one.1.delivery two.1.delivery one.1.of two.1.of
          (later_frame s f g less one.1.delivery two.1.delivery (one.0, one.1.from) (two.0, two.1.from))

  pub sent_in_order : AreSentInOrder (bus_sent s)
  sent_in_order = in_turn_pairs InSentOrder (bus_sent s) all_in_turn

  -- so two are different packets
  others : (t u : SentPacket) → InSentOrder t u → is_packet t.packet u.packet ≡ false
  others t u order =
      elim (cases_Bool (is_packet t.packet u.packet)) [
        | inl is ↦
            (let same = same_packet t.packet u.packet is in
            let less = order (ap (λ (x : PacketId). x.node) same) (ap (λ (x : PacketId). x.boot) same) (ap (λ (x : PacketId). x.stream) same) in
            let seq = ap (λ (x : PacketId). x.seq) same in
            absurd (omega (arith, less, seq)))
        | inr not ↦ not
      ]

  pub different : Climbs (λ t u. is_packet t.packet u.packet ≡ false) (bus_sent s)
  different = by_list (bus_sent s) all_in_turn
    where
      by_list : (ts : List SentPacket) → Climbs InSentOrder ts → Climbs (λ t u. is_packet t.packet u.packet ≡ false) ts
      by_list [] is = tt
      by_list (t ∷ ts) is = (each_more (InSentOrder t) (λ u. is_packet t.packet u.packet ≡ false) (others t) ts is.0, by_list ts is.1)

  pub sent_once : AreSentOnce (bus_sent s)
  sent_once = in_turn_pairs (λ t u. is_packet t.packet u.packet ≡ false) (bus_sent s) different
