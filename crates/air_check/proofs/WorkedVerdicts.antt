-- The worked verdicts, by trails that are computed.
use Rattle.std.proofs.Common.{◌≡◌, ℕ, zero, suc, ◌<◌, List, [], ◌∷◌, true, IsPermutation, length, refl, ap, ◌∙◌, arith}
use Rattle.std.proofs.lemmas.List.Sorted.{IsPermutation-refl, length_permutation}
use Rattle.lwb_base.specs.Messages.{least_passing}
use Rattle.lwb_base.proofs.Orders.{same_list}
use Rattle.schedule_codec.specs.Packing.{digits, packed_number}
use Rattle.schedule_codec.specs.Reading.{schedule_of, asks_in}
use Rattle.bus_rules.specs.Streams.{schedule_heard}
use Rattle.bus_rules.specs.Granting.{plan_round, turns}
use Rattle.bus_rules.specs.HostPlans.{host_plan}
use Rattle.air_log.specs.Devices.{Device, at_rest, silenced}
use Rattle.air_log.specs.Lawful.{trail_sent, sent_by}
use Rattle.air_log.specs.Trails.{Reception, trail}
use Rattle.air_log.specs.FirstRound.{first_round, opening_with, closing_with, first_round_sent_by_host, first_round_tuned_by_host}
use Rattle.air_log.specs.TwoNodeLog.{true_time}
use Rattle.air_log.proofs.ComputedTrails.{goes_through, after_ticks, computed, true_due}
use Rattle.air_log.proofs.FirstRound.{host_trail, of_trail, by_ticks}
use Rattle.air_check.specs.Verdicts.{FollowsTrail, IsFirstAstray}
use Rattle.air_check.specs.WorkedVerdicts.{first_reception_lost}

-- the ticks at which something happens at the host that receives nothing, and at the other node without its first reception
abbrev host_ticks : List ℕ
host_ticks =
    0 ∷ 204800000 ∷ 460800000 ∷ 716800000 ∷ 972800000 ∷ 1228800000
    ∷ 1344000000 ∷ 1344064000 ∷ 1344100864 ∷ 1346096000
    ∷ 1346112000 ∷ 1348208000
    ∷ 1348224000 ∷ 1348288000 ∷ 1348324864 ∷ 1350320000
    ∷ 1484800000
    ∷ []

abbrev other_ticks : List ℕ
other_ticks =
    0 ∷ 204800000 ∷ 460800000 ∷ 716800000 ∷ 972800000 ∷ 1228800000
    ∷ 1344199168 ∷ 1344211456 ∷ 1344248320 ∷ 1346096000
    ∷ 1346112000 ∷ 1348208000
    ∷ 1348224000 ∷ 1348324864 ∷ 1348337152 ∷ 1348374016 ∷ 1348423168 ∷ 1348435456 ∷ 1348472320 ∷ 1350320000
    ∷ 1484800000
    ∷ []

abbrev heard_late : List Reception
heard_late =
    record { packet = opening_with 2; end = 1344199168 }
    ∷ record { packet = closing_with 0; end = 1348324864 }
    ∷ record { packet = closing_with 2; end = 1348423168 }
    ∷ []

host_goes : goes_through (λ x. x) (λ t. t) first_round 1 [] 1536000000 0 host_ticks at_rest ≡ true
unfolding least_passing digits packed_number schedule_of asks_in schedule_heard host_plan plan_round turns
host_goes = refl

other_goes : goes_through (λ x. x) (λ t. t) first_round 2 heard_late 1536000000 0 other_ticks at_rest ≡ true
unfolding least_passing digits packed_number schedule_of asks_in schedule_heard host_plan plan_round turns
other_goes = refl

-- both transmit: the host its opening and its closing, the other node three relays
host_sends : length (by_ticks 1 [] host_ticks).made.sent ≡ 2
unfolding least_passing digits packed_number schedule_of asks_in schedule_heard host_plan plan_round turns
host_sends = refl

other_sends : length (by_ticks 2 heard_late other_ticks).made.sent ≡ 3
unfolding least_passing digits packed_number schedule_of asks_in schedule_heard host_plan plan_round turns
other_sends = refl

pub empty : IsFirstAstray first_round true_time [] 1
empty = record {
  astray = λ follows. more_than_none follows.sent;
  least = λ u low. below u low;
}
  where
    below : (u : ℕ) → u < 1 → FollowsTrail first_round true_time [] u
    below zero low = record { sent = IsPermutation-refl []; tuned = IsPermutation-refl [] }
    below (suc u) low = absurd (omega (arith, low))

    two : length (trail_sent first_round true_time [] 1) ≡ 2
    two = ap (λ (d : Device). length d.made.sent) (of_trail 1 [] host_ticks host_goes) ∙ host_sends

    more_than_none : IsPermutation (trail_sent first_round true_time [] 1) (sent_by [] 1) → ⊥
    more_than_none same = omega (arith, two, length_permutation (trail_sent first_round true_time [] 1) (sent_by [] 1) same)

pub one_less : IsFirstAstray first_round true_time first_reception_lost 2
one_less = record {
  astray = λ follows. one_too_many follows.sent;
  least = λ u low. below u low;
}
  where
    three : length (trail_sent first_round true_time first_reception_lost 2) ≡ 3
    three = ap (λ (d : Device). length d.made.sent) (of_trail 2 heard_late other_ticks other_goes) ∙ other_sends

    one_too_many : IsPermutation (trail_sent first_round true_time first_reception_lost 2) (sent_by first_reception_lost 2) → ⊥
    one_too_many same = omega (arith, three, length_permutation (trail_sent first_round true_time first_reception_lost 2) (sent_by first_reception_lost 2) same)

    host : FollowsTrail first_round true_time first_reception_lost 1
    host = record {
      sent = same_list _ _ first_round_sent_by_host host_trail.sendings refl;
      tuned = same_list _ _ first_round_tuned_by_host host_trail.tunings refl;
    }

    below : (u : ℕ) → u < 2 → FollowsTrail first_round true_time first_reception_lost u
    below zero low = record { sent = IsPermutation-refl []; tuned = IsPermutation-refl [] }
    below (suc zero) low = host
    below (suc (suc u)) low = absurd (omega (arith, low))
