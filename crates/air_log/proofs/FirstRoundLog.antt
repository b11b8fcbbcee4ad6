-- The log of the worked first round is valid.
use Rattle.std.proofs.Common.{◌≡◌, ◌≢◌, ℕ, [], Bool, true, false, ◌==◌, ◌||◌, IsPermutation, refl, sym, ◌∙◌, subst, inl, inr, eqb-true}
use Rattle.std.proofs.lemmas.Bool.{cases_eq, ne_eqb}
use Rattle.lwb_base.proofs.Orders.{same_list}
use Rattle.lwb_base.proofs.Elements.{all_passes}
use Rattle.radio_model.specs.declared.sending.Sending.{Sending}
use Rattle.radio_model.specs.OnAir.{Tuning}
use Rattle.scenario_text.specs.FloodParts.{knows}
use Rattle.air_log.specs.Lawful.{Lawful, trail_sent, trail_tuned, sent_by, tuned_by}
use Rattle.air_log.specs.TwoNodeLog.{true_time}
use Rattle.air_log.specs.FirstRound.{first_round, first_round_log, sent_in_round, first_round_tuned_by_host, tuned_by_other, first_round_sent_by_host}
use Rattle.air_log.specs.FirstRound.{sent_by_other}
use Rattle.air_log.proofs.NextDue.{none_passes}
use Rattle.air_log.proofs.FirstRound.{host_trail, other_trail}
use Rattle.air_log.proofs.FirstRoundHearings.{tuned_in_round, follows_hearing}

-- the trails
abbrev pub of_either : ℕ → Bool
of_either v = (v == 1) || (v == 2)

pub from_either : (u v : ℕ) → of_either u ≡ true → v ≢ 1 → v ≢ 2 → u ≡ v → ⊥
from_either u v is one two same = by_test (u == 1) refl is
  where
    by_test : (b : Bool) → (u == 1) ≡ b → (b || (u == 2)) ≡ true → ⊥
    by_test true at is = one (sym same ∙ eqb-true u 1 at)
    by_test false at is = two (sym same ∙ eqb-true u 2 is)

unknown : (v : ℕ) → v ≢ 1 → v ≢ 2 → knows first_round.nodes v ≡ false
unknown v one two = rw (ne_eqb 1 v (λ is. one (sym is))) rw (ne_eqb 2 v (λ is. two (sym is))) refl

no_sent : (v : ℕ) → v ≢ 1 → v ≢ 2 → sent_by first_round_log v ≡ []
no_sent v one two =
    none_passes (λ (x : Sending). x.node == v) sent_in_round
    (λ x there is. from_either x.node v (all_passes (λ (y : Sending). of_either y.node) sent_in_round refl x there) one two (eqb-true x.node v is))

no_tuned : (v : ℕ) → v ≢ 1 → v ≢ 2 → tuned_by first_round_log v ≡ []
no_tuned v one two =
    none_passes (λ (e : Tuning). e.node == v) tuned_in_round
    (λ e there is. from_either e.node v (all_passes (λ (d : Tuning). of_either d.node) tuned_in_round refl e there) one two (eqb-true e.node v is))

none_sent : (v : ℕ) → v ≢ 1 → v ≢ 2 → trail_sent first_round true_time first_round_log v ≡ []
none_sent v one two = rw (unknown v one two) refl

none_tuned : (v : ℕ) → v ≢ 1 → v ≢ 2 → trail_tuned first_round true_time first_round_log v ≡ []
none_tuned v one two = rw (unknown v one two) refl

abbrev SentAs : ℕ → Type 0
SentAs v = IsPermutation (trail_sent first_round true_time first_round_log v) (sent_by first_round_log v)

abbrev TunedAs : ℕ → Type 0
TunedAs v = IsPermutation (trail_tuned first_round true_time first_round_log v) (tuned_by first_round_log v)

sent_of : (v : ℕ) → SentAs v
sent_of v =
    elim (cases_eq v 1) [
      | inl is ↦ subst SentAs (sym is) (same_list _ _ first_round_sent_by_host host_trail.sendings refl)
      | inr one ↦ elim (cases_eq v 2) [
        | inl is ↦ subst SentAs (sym is) (same_list _ _ sent_by_other other_trail.sendings refl)
        | inr two ↦ same_list _ _ [] (none_sent v one two) (no_sent v one two)
      ]
    ]

tuned_of : (v : ℕ) → TunedAs v
tuned_of v =
    elim (cases_eq v 1) [
      | inl is ↦ subst TunedAs (sym is) (same_list _ _ first_round_tuned_by_host host_trail.tunings refl)
      | inr one ↦ elim (cases_eq v 2) [
        | inl is ↦ subst TunedAs (sym is) (same_list _ _ tuned_by_other other_trail.tunings refl)
        | inr two ↦ same_list _ _ [] (none_tuned v one two) (no_tuned v one two)
      ]
    ]

pub lawful : Lawful first_round true_time first_round_log
lawful = record { trails = record { sent = sent_of; tuned = tuned_of }; hearing = follows_hearing }
