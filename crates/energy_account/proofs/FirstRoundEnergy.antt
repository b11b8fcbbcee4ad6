-- The energy of the worked first round, computed from the definition.
use Rattle.std.proofs.Common.{◌≡◌, ℕ, List, [], ◌∷◌, Bool, true, false, cond, take, count_by, refl, ap, ◌∙◌}
use Rattle.std.specs.List.{range_with_len}
use Rattle.lwb_base.specs.Messages.{least_passing}
use Rattle.schedule_codec.specs.Packing.{digits, packed_number}
use Rattle.schedule_codec.specs.Reading.{schedule_of, asks_in}
use Rattle.bus_rules.specs.Streams.{schedule_heard}
use Rattle.bus_rules.specs.Granting.{plan_round, turns}
use Rattle.bus_rules.specs.HostPlans.{host_plan}
use Rattle.air_log.specs.Devices.{Device, at_rest}
use Rattle.air_log.specs.Trails.{Reception, device_after_script, frame_start, before_tick, tune_at, tune_of}
use Rattle.air_log.specs.Charges.{scans_with, scanned_frames}
use Rattle.air_log.specs.FirstRound.{first_round, first_round_log, first_round_heard_by_host, heard_by_other}
use Rattle.air_log.specs.TwoNodeLog.{true_time}
use Rattle.air_log.proofs.ComputedTrails.{goes_through, after_ticks, computed, true_due}
use Rattle.air_log.proofs.FirstRound.{host_trail, other_trail}
use Rattle.air_log.specs.Energies.{costs, energy_of}

-- the ticks at which something happens at either node before the round of frame 5
abbrev scanning_ticks : List ℕ
scanning_ticks = 0 ∷ 204800000 ∷ 460800000 ∷ 716800000 ∷ 972800000 ∷ 1228800000 ∷ []

-- the node at the start of frame f, computed over some of them
abbrev device_at : ℕ → List Reception → ℕ → List ℕ → Device
device_at v hs f ticks =
    device_after_script first_round v (true_time v) (frame_start first_round f) (after_ticks (λ x. x) (λ t. t) first_round v hs ticks at_rest)

scans_at : (v : ℕ) (hs : List Reception) (f : ℕ) (ticks : List ℕ) (scans : Bool)
    → goes_through (λ x. x) (λ t. t) first_round v hs (frame_start first_round f) 0 ticks at_rest ≡ true
    → scans_with (tune_of (device_at v hs f ticks).power) ≡ scans
    → scans_with (tune_of (device_after_script first_round v (true_time v) (frame_start first_round f)
    (before_tick first_round v (true_time v) hs (frame_start first_round f))).power) ≡ scans
scans_at v hs f ticks scans goes is =
    ap (λ (d : Device). scans_with (tune_of (device_after_script first_round v (true_time v) (frame_start first_round f) d).power))
    (computed (λ t. t) (λ x. x) true_due first_round v hs (frame_start first_round f) ticks goes)
    ∙ is

counted : (p : ℕ → Bool) (last : Bool) → p 0 ≡ true → p 1 ≡ true → p 2 ≡ true → p 3 ≡ true → p 4 ≡ true → p 5 ≡ last → count_by p (range_with_len 0 6)
    ≡ cond last 6 5
counted p true at_0 at_1 at_2 at_3 at_4 at_5 = rw (at_0, at_1, at_2, at_3, at_4, at_5) refl
counted p false at_0 at_1 at_2 at_3 at_4 at_5 = rw (at_0, at_1, at_2, at_3, at_4, at_5) refl

-- the host hosts when frame 5 starts, as nothing was received
host_scans : scanned_frames first_round 1 (true_time 1) first_round_heard_by_host ≡ 5
unfolding least_passing digits packed_number schedule_of asks_in schedule_heard host_plan plan_round turns
host_scans =
    counted (λ f. scans_with (tune_at first_round 1 (true_time 1) first_round_heard_by_host f)) false
    (scans_at 1 first_round_heard_by_host 0 [] true refl refl)
    (scans_at 1 first_round_heard_by_host 1 (take 2 scanning_ticks) true refl refl)
    (scans_at 1 first_round_heard_by_host 2 (take 3 scanning_ticks) true refl refl)
    (scans_at 1 first_round_heard_by_host 3 (take 4 scanning_ticks) true refl refl)
    (scans_at 1 first_round_heard_by_host 4 (take 5 scanning_ticks) true refl refl)
    (scans_at 1 first_round_heard_by_host 5 scanning_ticks false refl refl)

other_scans : scanned_frames first_round 2 (true_time 2) heard_by_other ≡ 6
unfolding least_passing digits packed_number schedule_of asks_in schedule_heard host_plan plan_round turns
other_scans =
    counted (λ f. scans_with (tune_at first_round 2 (true_time 2) heard_by_other f)) true
    (scans_at 2 heard_by_other 0 [] true refl refl)
    (scans_at 2 heard_by_other 1 (take 2 scanning_ticks) true refl refl)
    (scans_at 2 heard_by_other 2 (take 3 scanning_ticks) true refl refl)
    (scans_at 2 heard_by_other 3 (take 4 scanning_ticks) true refl refl)
    (scans_at 2 heard_by_other 4 (take 5 scanning_ticks) true refl refl)
    (scans_at 2 heard_by_other 5 scanning_ticks true refl refl)

pub host_energy : energy_of first_round true_time first_round_log 1 ≡ costs 147456 2494336 5 1231294336
host_energy = ap (λ (w : ℕ). costs 147456 w (scanned_frames first_round 1 (true_time 1) first_round_heard_by_host) 1231294336) host_trail.charge
    ∙ ap (λ (n : ℕ). costs 147456 2494336 n 1231294336) host_scans

pub other_energy : energy_of first_round true_time first_round_log 2 ≡ costs 147456 2344320 6 1346592640
other_energy = ap (λ (w : ℕ). costs 147456 w (scanned_frames first_round 2 (true_time 2) heard_by_other) 1346592640) other_trail.charge
    ∙ ap (λ (n : ℕ). costs 147456 2344320 n 1346592640) other_scans
