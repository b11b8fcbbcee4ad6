-- Each delivery is of a packet that was sent in its slot.
use Rattle.std.proofs.Common.{ℕ, [], Option, Some, None, Contains, filter_map, flat_map}
use Rattle.std.specs.Option.{option_map_or}
use Rattle.lwb_base.specs.Messages.{Plan}
use Rattle.lwb_base.proofs.Elements.{filter_from, from_flat, in_filter, in_flat, not_in_none}
use Rattle.scenario_text.specs.ScenarioParts.{ScenarioParts}
use Rattle.bus_rules.specs.declared.delivery.Delivery.{Delivery}
use Rattle.bus_terms.specs.Bus.{frames_of, ranks_of, state_at}
use Rattle.bus_terms.specs.FloodOfText.{ids}
use Rattle.bus_terms.specs.Packets.{round_sent, sent_in_slot}
use Rattle.bus_terms.specs.Rounds.{delivery_in_slot, round_deliveries, round_plan, slot_deliveries, slots_of}
use Rattle.law_packets.specs.Sendings.{AreOfSentPackets, sending_of}
use Rattle.law_packets.proofs.SentPackets.{delivered_was_sent}

module _ (s : ScenarioParts) where
  in_round : (rank f : ℕ) (d : Delivery) → Contains (round_deliveries s rank f (state_at s f)) d → Contains (round_sent s rank f (state_at s f)) (sending_of d)
  in_round rank f d = by_plan (round_plan s rank f (state_at s f))
    where
      by_plan : (o : Option Plan) → Contains (option_map_or (λ p. flat_map (slot_deliveries s rank f p (state_at s f)) (slots_of p)) o []) d
          → Contains (option_map_or (λ p. filter_map (sent_in_slot s rank f p (state_at s f)) (slots_of p)) o []) (sending_of d)
      by_plan None there = absurd (not_in_none d there)
      by_plan (Some p) there =
          let slot = from_flat (slot_deliveries s rank f p (state_at s f)) (slots_of p) d there in
          let node = filter_from (delivery_in_slot s rank f p (state_at s f) slot.0) (ids s.nodes) d slot.2 in
          in_filter (sent_in_slot s rank f p (state_at s f)) (slots_of p) slot.0 (sending_of d) slot.1
          (delivered_was_sent s rank f p (state_at s f) slot.0 node.0 d node.2)

  pub of_sent_packets : AreOfSentPackets s
  of_sent_packets d there =
      let frame = from_flat (λ f. flat_map (λ rank. round_deliveries s rank f (state_at s f)) (ranks_of s)) (frames_of s) d there in
      let rank = from_flat (λ rank. round_deliveries s rank frame.0 (state_at s frame.0)) (ranks_of s) d frame.2 in
      in_flat (λ f. flat_map (λ rank. round_sent s rank f (state_at s f)) (ranks_of s)) (frames_of s) frame.0 (sending_of d) frame.1
      (in_flat (λ rank. round_sent s rank frame.0 (state_at s frame.0)) (ranks_of s) rank.0 (sending_of d) rank.1 (in_round rank.0 frame.0 d rank.2))
