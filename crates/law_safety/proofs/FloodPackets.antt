-- The packets of one flood: they say the same and are of one length.
use Rattle.std.proofs.Common.{◌≡◌, ℕ, inl, inr, List, length, true, Some, sym, ◌∙◌, ap, arith}
use Rattle.std.proofs.lemmas.List.{length-set}
use Rattle.lwb_packets.specs.Body.{body}
use Rattle.lwb_packets.specs.Requests.{is_request}
use Rattle.bus_rules.specs.Slots.{RequestOf}
use Rattle.lwb_member.specs.Said.{message_of}
use Rattle.scenario_text.specs.ScenarioParts.{ScenarioParts}
use Rattle.radio_model.specs.declared.sending.Sending.{Sending}
use Rattle.radio_model.specs.Hearing.{counter_of_sending}
use Rattle.air_log.specs.declared.entry.Entry.{Entry}
use Rattle.law_trails.proofs.OtherCounters.{bodies_same}
use Rattle.law_trails.proofs.SaidPackets.{says, request_read}
use Rattle.law_safety.specs.FloodSendings.{IsOfFlood}
use Rattle.law_safety.specs.SlotLaws.{AsksForStream, OneFloodInASlot}
use Rattle.law_safety.proofs.SlotFloods.{one_flood}

-- packets that differ in the counter at most are of one length
pub same_length : (p q : List ℕ) → body p ≡ body q → length p ≡ length q
same_length p q same = sym (length-set p 2 0) ∙ ap (λ (b : List ℕ). length b) same ∙ length-set q 2 0

module _ (s : ScenarioParts) (clocks : ℕ → ℕ → ℕ) (air : List Entry) (x : Sending) (is : IsOfFlood s clocks air x) where
  pub says_as_origin : message_of x.packet ≡ message_of is.origin.packet
  says_as_origin =
      let few = is.few in
      let first : counter_of_sending is.origin ≡ 0 = is.begins.start.first in
      bodies_same x.packet is.origin.packet few (omega (arith, first)) is.same

  module _ (asks : AsksForStream (message_of is.origin.packet)) where
    pub asks_too : message_of x.packet ≡ Some (RequestOf asks.0)
    asks_too = says_as_origin ∙ asks.1

    pub is_asking : is_request x.packet ≡ true
    is_asking = (request_read x.packet asks.0 asks_too).0

    pub asks_in_7 : length x.packet ≡ 7
    asks_in_7 = (says x.packet (RequestOf asks.0) asks_too).counted

pub one_flood_says : OneFloodInASlot
one_flood_says s clocks air whole x y is also same =
    elim (one_flood s clocks air whole x y is also same) [
      | inl one ↦ inl one
      | inr both ↦ inr ((both.0.0, asks_too s clocks air x is both.0), (both.1.0, asks_too s clocks air y also both.1))
    ]
