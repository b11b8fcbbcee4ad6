-- The worked trail is computed.
use Rattle.std.proofs.Common.{◌≡◌, ℕ, List, [], ◌∷◌, true, refl, ap, sym, subst}
use Rattle.lwb_base.specs.Messages.{least_passing}
use Rattle.schedule_codec.specs.Packing.{digits, packed_number}
use Rattle.schedule_codec.specs.Reading.{schedule_of, asks_in}
use Rattle.bus_rules.specs.Streams.{schedule_heard}
use Rattle.bus_rules.specs.Granting.{plan_round, turns}
use Rattle.bus_rules.specs.HostPlans.{host_plan}
use Rattle.bus_rules.specs.declared.tune.Tune.{Tune}
use Rattle.bus_rules.specs.declared.tune.Tune.TheVariants.{Hold, Host}
use Rattle.radio_model.specs.declared.sending.Sending.{Sending}
use Rattle.radio_model.specs.OnAir.{Tuning}
use Rattle.air_log.specs.Devices.{Device, at_rest, silenced}
use Rattle.air_log.specs.Trails.{Reception, trail}
use Rattle.air_log.specs.FirstRound.{IsWorked, first_round, first_round_heard_by_host, heard_by_other, first_round_sent_by_host, sent_by_other}
use Rattle.air_log.specs.FirstRound.{first_round_tuned_by_host, tuned_by_other}
use Rattle.air_log.specs.TwoNodeLog.{true_time}
use Rattle.air_log.proofs.ComputedTrails.{goes_through, after_ticks, computed, true_due}

-- the ticks at which something happens at the host, and at the other node
abbrev host_ticks : List ℕ
host_ticks =
    0 ∷ 204800000 ∷ 460800000 ∷ 716800000 ∷ 972800000 ∷ 1228800000
    ∷ 1344000000 ∷ 1344064000 ∷ 1344100864 ∷ 1344150016 ∷ 1344162304 ∷ 1344199168 ∷ 1346096000
    ∷ 1346112000 ∷ 1348208000
    ∷ 1348224000 ∷ 1348288000 ∷ 1348324864 ∷ 1348374016 ∷ 1348386304 ∷ 1348423168 ∷ 1350320000
    ∷ 1484800000
    ∷ []

abbrev other_ticks : List ℕ
other_ticks =
    0 ∷ 204800000 ∷ 460800000 ∷ 716800000 ∷ 972800000 ∷ 1228800000
    ∷ 1344100864 ∷ 1344113152 ∷ 1344150016 ∷ 1344199168 ∷ 1344211456 ∷ 1344248320 ∷ 1346096000
    ∷ 1346112000 ∷ 1348208000
    ∷ 1348224000 ∷ 1348324864 ∷ 1348337152 ∷ 1348374016 ∷ 1348423168 ∷ 1348435456 ∷ 1348472320 ∷ 1350320000
    ∷ 1484800000
    ∷ []

host_goes : goes_through (λ x. x) (λ t. t) first_round 1 first_round_heard_by_host 1536000000 0 host_ticks at_rest ≡ true
unfolding least_passing digits packed_number schedule_of asks_in schedule_heard host_plan plan_round turns
host_goes = refl

other_goes : goes_through (λ x. x) (λ t. t) first_round 2 heard_by_other 1536000000 0 other_ticks at_rest ≡ true
unfolding least_passing digits packed_number schedule_of asks_in schedule_heard host_plan plan_round turns
other_goes = refl

abbrev pub by_ticks : ℕ → List Reception → List ℕ → Device
by_ticks v hs ticks = silenced v 1536000000 (after_ticks (λ x. x) (λ t. t) first_round v hs ticks at_rest)

host_worked : IsWorked first_round (by_ticks 1 first_round_heard_by_host host_ticks) first_round_sent_by_host first_round_tuned_by_host 2494336 (Host 0 9)
unfolding least_passing digits packed_number schedule_of asks_in schedule_heard host_plan plan_round turns
host_worked = record { sendings = refl; tunings = refl; charge = refl; last = refl }

other_worked : IsWorked first_round (by_ticks 2 heard_by_other other_ticks) sent_by_other tuned_by_other 2344320 (Hold 0 9)
unfolding least_passing digits packed_number schedule_of asks_in schedule_heard host_plan plan_round turns
other_worked = record { sendings = refl; tunings = refl; charge = refl; last = refl }

pub of_trail : (v : ℕ) (hs : List Reception) (ticks : List ℕ) → goes_through (λ x. x) (λ t. t) first_round v hs 1536000000 0 ticks at_rest ≡ true
    → trail first_round v (true_time v) hs ≡ by_ticks v hs ticks
of_trail v hs ticks goes = ap (silenced v 1536000000) (computed (λ t. t) (λ x. x) true_due first_round v hs 1536000000 ticks goes)

module _ (sent : List Sending) (tuned : List Tuning) (windows : ℕ) (tune : Tune) where
  worked : (v : ℕ) (hs : List Reception) (ticks : List ℕ) → goes_through (λ x. x) (λ t. t) first_round v hs 1536000000 0 ticks at_rest ≡ true
      → IsWorked first_round (by_ticks v hs ticks) sent tuned windows tune
      → IsWorked first_round (trail first_round v (true_time v) hs) sent tuned windows tune
  worked v hs ticks goes all = subst (λ (d : Device). IsWorked first_round d sent tuned windows tune) (sym (of_trail v hs ticks goes)) all

pub host_trail : IsWorked first_round (trail first_round 1 (true_time 1) first_round_heard_by_host) first_round_sent_by_host first_round_tuned_by_host
    2494336 (Host 0 9)
host_trail = worked first_round_sent_by_host first_round_tuned_by_host 2494336 (Host 0 9) 1 first_round_heard_by_host host_ticks host_goes host_worked

pub other_trail : IsWorked first_round (trail first_round 2 (true_time 2) heard_by_other) sent_by_other tuned_by_other 2344320 (Hold 0 9)
other_trail = worked sent_by_other tuned_by_other 2344320 (Hold 0 9) 2 heard_by_other other_ticks other_goes other_worked
