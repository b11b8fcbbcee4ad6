-- The log of the worked rounds of one packet is valid.
use Rattle.std.proofs.Common.{◌≡◌, ◌≢◌, ℕ, [], false, ◌==◌, IsPermutation, refl, sym, subst, inl, inr, eqb-true}
use Rattle.std.proofs.lemmas.Bool.{cases_eq, ne_eqb}
use Rattle.lwb_base.proofs.Orders.{same_list}
use Rattle.lwb_base.proofs.Elements.{all_passes}
use Rattle.radio_model.specs.declared.sending.Sending.{Sending}
use Rattle.radio_model.specs.OnAir.{Tuning}
use Rattle.scenario_text.specs.FloodParts.{knows}
use Rattle.air_log.specs.Lawful.{Lawful, trail_sent, trail_tuned, sent_by, tuned_by}
use Rattle.air_log.proofs.NextDue.{none_passes}
use Rattle.air_log.proofs.FirstRoundLog.{from_either, of_either}
use Rattle.law_trails.specs.OnePacket.{one_packet, drifting, one_packet_log, sent_in_rounds, sent_by_host, sent_by_member, tuned_by_host, tuned_by_member}
use Rattle.law_trails.proofs.OnePacketTrails.{host_sent, host_tuned, member_sent, member_tuned}
use Rattle.law_trails.proofs.OnePacketHearings.{follows_hearing, tuned_in_rounds}

unknown : (v : ℕ) → v ≢ 1 → v ≢ 2 → knows one_packet.nodes v ≡ false
unknown v one two = rw (ne_eqb 1 v (λ is. one (sym is))) rw (ne_eqb 2 v (λ is. two (sym is))) refl

no_sent : (v : ℕ) → v ≢ 1 → v ≢ 2 → sent_by one_packet_log v ≡ []
no_sent v one two = none_passes (λ (x : Sending). x.node == v) sent_in_rounds
    (λ x there is. from_either x.node v (all_passes (λ (y : Sending). of_either y.node) sent_in_rounds refl x there) one two (eqb-true x.node v is))

no_tuned : (v : ℕ) → v ≢ 1 → v ≢ 2 → tuned_by one_packet_log v ≡ []
no_tuned v one two = none_passes (λ (e : Tuning). e.node == v) tuned_in_rounds
    (λ e there is. from_either e.node v (all_passes (λ (d : Tuning). of_either d.node) tuned_in_rounds refl e there) one two (eqb-true e.node v is))

none_sent : (v : ℕ) → v ≢ 1 → v ≢ 2 → trail_sent one_packet drifting one_packet_log v ≡ []
none_sent v one two = rw (unknown v one two) refl

none_tuned : (v : ℕ) → v ≢ 1 → v ≢ 2 → trail_tuned one_packet drifting one_packet_log v ≡ []
none_tuned v one two = rw (unknown v one two) refl

abbrev SentAs : ℕ → Type 0
SentAs v = IsPermutation (trail_sent one_packet drifting one_packet_log v) (sent_by one_packet_log v)

abbrev TunedAs : ℕ → Type 0
TunedAs v = IsPermutation (trail_tuned one_packet drifting one_packet_log v) (tuned_by one_packet_log v)

-- what holds of both nodes and of all others
by_node : (P : ℕ → Type 0) → P 1 → P 2 → ((v : ℕ) → v ≢ 1 → v ≢ 2 → P v) → (v : ℕ) → P v
by_node P one two other v =
    elim (cases_eq v 1) [
      | inl is ↦ subst P (sym is) one
      | inr no_host ↦ elim (cases_eq v 2) [ inl is ↦ subst P (sym is) two | inr no_member ↦ other v no_host no_member ]
    ]

pub lawful : Lawful one_packet drifting one_packet_log
lawful = record {
  trails = record {
    sent = by_node SentAs (same_list _ _ sent_by_host host_sent refl) (same_list _ _ sent_by_member member_sent refl)
        (λ v one two. same_list _ _ [] (none_sent v one two) (no_sent v one two));
    tuned = by_node TunedAs (same_list _ _ tuned_by_host host_tuned refl) (same_list _ _ tuned_by_member member_tuned refl)
        (λ v one two. same_list _ _ [] (none_tuned v one two) (no_tuned v one two));
  };
  hearing = follows_hearing;
}
