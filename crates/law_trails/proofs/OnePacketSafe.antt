-- The log of the worked rounds of one packet is safe: node 2 asks by the opening, and says its packet by the next one.
use Rattle.std.proofs.Common.{◌≡◌, ℕ, List, [], ◌∷◌, Bool, not, ◌==◌, ◌&&◌, nat_le, filter, Contains, refl, subst, arith, inl, inr, leb-true}
use Rattle.std.proofs.lemmas.Bool.{and_from, eq-eqb}
use Rattle.lwb_base.specs.Messages.{least_passing}
use Rattle.schedule_codec.specs.Packing.{digits, packed_number}
use Rattle.schedule_codec.specs.Reading.{schedule_of, asks_in, is_schedule}
use Rattle.scenario_text.specs.declared.script.ScriptLine.{ScriptLine}
use Rattle.radio_model.specs.declared.sending.Sending.{Sending}
use Rattle.radio_model.specs.Hearing.{counter_of_sending}
use Rattle.air_log.specs.Safe.{Safe, HasWord, StaysOn}
use Rattle.lwb_base.proofs.Elements.{not_in_none, contains_cases, in_filtered, all_passes}
use Rattle.law_trails.specs.OnePacket.{one_packet, drifting, one_packet_log, sent_in_rounds, opening_0, request_0, reopening_0, data_0}
use Rattle.law_trails.specs.OnePacketNodes.{first_plan, granted_plan}
use Rattle.law_trails.proofs.SafeTests.{in_frame_by, apart_by, alike_by, one_by}

-- all lines are of frame 0
abbrev is_early : ScriptLine → Bool
is_early l = nat_le l.frame 0

stays_on : (v g f : ℕ) → StaysOn one_packet v g f
stays_on v g f l there node after before = absurd (omega (arith, after, leb-true l.frame 0 (all_passes is_early one_packet.script refl l there)))

asks : HasWord one_packet one_packet_log request_0
unfolding least_passing digits packed_number schedule_of asks_in
asks = record {
  heard = opening_0;
  schedule = record { plan = first_plan; gap = 0 };
  there = (0, omega arith, refl);
  says = refl;
  channel = refl;
  named = refl;
  due = refl;
  stays_on = stays_on 2 5 5;
  allows = (refl, 1, refl);
}

speaks : HasWord one_packet one_packet_log data_0
unfolding least_passing digits packed_number schedule_of asks_in
speaks = record {
  heard = reopening_0;
  schedule = record { plan = granted_plan; gap = 0 };
  there = (9, omega arith, refl);
  says = refl;
  channel = refl;
  named = refl;
  due = refl;
  stays_on = stays_on 2 9 9;
  allows = refl;
}

-- nothing else that is no schedule begins a flood
abbrev begins : Sending → Bool
begins x = (counter_of_sending x == 0) && not (is_schedule x.packet)

both_begin : filter begins sent_in_rounds ≡ request_0 ∷ data_0 ∷ []
unfolding least_passing digits packed_number schedule_of asks_in
both_begin = refl

has_word : (x : Sending) → Contains (request_0 ∷ data_0 ∷ []) x → HasWord one_packet one_packet_log x
has_word x there =
    elim (contains_cases request_0 (data_0 ∷ []) x there) [
      | inl is ↦ subst (HasWord one_packet one_packet_log) is asks
      | inr later ↦ elim (contains_cases data_0 [] x later) [
        | inl is ↦ subst (HasWord one_packet one_packet_log) is speaks
        | inr none ↦ absurd (not_in_none x none)
      ]
    ]

pub safe : Safe one_packet drifting one_packet_log
unfolding least_passing digits packed_number schedule_of asks_in
safe = record {
  within_one_frame = in_frame_by one_packet one_packet_log refl;
  no_overlap = apart_by one_packet one_packet_log refl;
  same_but_for_counter = alike_by one_packet one_packet_log refl;
  one_initiator = one_by one_packet one_packet_log refl refl;
  silence = λ x there first other guest. has_word x
      (subst (λ (xs : List Sending). Contains xs x) both_begin (in_filtered begins sent_in_rounds x there (and_from _ _ (eq-eqb _ _ first) (rw other refl))));
}
