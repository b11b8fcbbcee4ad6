-- Logs that break one clause of *Safe*, among schedules.
use Rattle.std.proofs.Common.{◌≡◌, ℕ, List, ◌∷◌, refl, ap, arith}
use Rattle.lwb_base.specs.Messages.{least_passing}
use Rattle.schedule_codec.specs.Packing.{digits, packed_number}
use Rattle.schedule_codec.specs.Reading.{schedule_of, asks_in}
use Rattle.air_log.specs.Safe.{WithinOneFrame, NoOverlap, SameButForCounter, OneInitiator}
use Rattle.air_log.specs.TwoNodeLog.{true_time}
use Rattle.air_log.specs.FirstRound.{first_round}
use Rattle.law_trails.specs.BrokenClauses.{BreaksOnly, InFrame, Apart, Alike, OneBegins}
use Rattle.law_trails.specs.UnsafeLogs.{opening_transmission, opened_too, opened_late, closed_early, relayed_early, relayed_otherwise, relayed, relayed_late}
use Rattle.law_trails.specs.UnsafeLogs.{ends_late, slots_meet, steps_meet, starts_apart, other_bytes, two_begin, not_the_host}
use Rattle.law_trails.proofs.BrokenClauses.{breaks}
use Rattle.law_trails.proofs.SafeTests.{in_frame_by, apart_by, alike_by, one_by, silent_by}

ends_late_is : WithinOneFrame first_round ends_late → ⊥
ends_late_is keeps = let ends = keeps opened_late (0, omega arith, refl) in absurd (omega (arith, ends))

pub ends_late_breaks : BreaksOnly InFrame first_round true_time ends_late
unfolding least_passing digits packed_number schedule_of asks_in
ends_late_breaks = breaks InFrame first_round ends_late ends_late_is
    (λ is. absurd (is refl)) (λ is. apart_by first_round ends_late refl)
    (λ is. alike_by first_round ends_late refl) (λ is. one_by first_round ends_late refl refl) (λ is. silent_by first_round ends_late true_time refl)

slots_meet_is : NoOverlap first_round slots_meet → ⊥
slots_meet_is keeps =
    let step =
    keeps opening_transmission closed_early (0, omega arith, refl) (1, omega arith, refl) refl (record { before = omega arith; after = omega arith }) in
    let slot : ◌≡◌ {A = ℕ} 0 2 = step.slot.slot in
    absurd (omega (arith, slot))

pub slots_meet_breaks : BreaksOnly Apart first_round true_time slots_meet
unfolding least_passing digits packed_number schedule_of asks_in
slots_meet_breaks = breaks Apart first_round slots_meet slots_meet_is
    (λ is. in_frame_by first_round slots_meet refl) (λ is. absurd (is refl))
    (λ is. alike_by first_round slots_meet refl) (λ is. one_by first_round slots_meet refl refl) (λ is. silent_by first_round slots_meet true_time refl)

steps_meet_is : NoOverlap first_round steps_meet → ⊥
steps_meet_is keeps =
    let step =
    keeps opening_transmission relayed_early (0, omega arith, refl) (1, omega arith, refl) refl (record { before = omega arith; after = omega arith }) in
    let counter : ◌≡◌ {A = ℕ} 0 1 = step.counter in
    absurd (omega (arith, counter))

pub steps_meet_breaks : BreaksOnly Apart first_round true_time steps_meet
unfolding least_passing digits packed_number schedule_of asks_in
steps_meet_breaks = breaks Apart first_round steps_meet steps_meet_is
    (λ is. in_frame_by first_round steps_meet refl) (λ is. absurd (is refl))
    (λ is. alike_by first_round steps_meet refl) (λ is. one_by first_round steps_meet refl refl) (λ is. silent_by first_round steps_meet true_time refl)

starts_apart_is : SameButForCounter first_round starts_apart → ⊥
starts_apart_is keeps =
    let both = keeps relayed relayed_late (0, omega arith, refl) (1, omega arith, refl) (record { channel = refl; frame = refl; slot = refl }) refl in
    let near = (both.together refl).above in
    absurd (omega (arith, near))

pub starts_apart_breaks : BreaksOnly Alike first_round true_time starts_apart
unfolding least_passing digits packed_number schedule_of asks_in
starts_apart_breaks = breaks Alike first_round starts_apart starts_apart_is
    (λ is. in_frame_by first_round starts_apart refl) (λ is. apart_by first_round starts_apart refl)
    (λ is. absurd (is refl)) (λ is. one_by first_round starts_apart refl refl) (λ is. silent_by first_round starts_apart true_time refl)

abbrev boot_in : List ℕ → ℕ
boot_in (a ∷ b ∷ c ∷ d ∷ e ∷ es) = e
boot_in es = 0

other_bytes_is : SameButForCounter first_round other_bytes → ⊥
other_bytes_is keeps =
    let both = keeps opening_transmission relayed_otherwise (0, omega arith, refl) (1, omega arith, refl)
    (record { channel = refl; frame = refl; slot = refl }) refl in
    let boot : ◌≡◌ {A = ℕ} 1 2 = ap boot_in both.bytes in
    absurd (omega (arith, boot))

pub other_bytes_breaks : BreaksOnly Alike first_round true_time other_bytes
unfolding least_passing digits packed_number schedule_of asks_in
other_bytes_breaks = breaks Alike first_round other_bytes other_bytes_is
    (λ is. in_frame_by first_round other_bytes refl) (λ is. apart_by first_round other_bytes refl)
    (λ is. absurd (is refl)) (λ is. one_by first_round other_bytes refl refl) (λ is. silent_by first_round other_bytes true_time refl)

two_begin_is : OneInitiator first_round two_begin → ⊥
two_begin_is keeps = keeps.one 0 1 opening_transmission (omega arith) (omega arith)
    (record { channel = refl; frame = refl; slot = refl }) (record { first = refl; no_request = refl }) (record { first = refl; no_request = refl })

pub two_begin_breaks : BreaksOnly OneBegins first_round true_time two_begin
unfolding least_passing digits packed_number schedule_of asks_in
two_begin_breaks = breaks OneBegins first_round two_begin two_begin_is
    (λ is. in_frame_by first_round two_begin refl) (λ is. apart_by first_round two_begin refl)
    (λ is. alike_by first_round two_begin refl) (λ is. absurd (is refl)) (λ is. silent_by first_round two_begin true_time refl)

not_the_host_is : OneInitiator first_round not_the_host → ⊥
unfolding digits packed_number schedule_of asks_in
not_the_host_is keeps = let host = keeps.host opened_too (0, omega arith, refl) refl refl in cc host

pub not_the_host_breaks : BreaksOnly OneBegins first_round true_time not_the_host
unfolding least_passing digits packed_number schedule_of asks_in
not_the_host_breaks = breaks OneBegins first_round not_the_host not_the_host_is
    (λ is. in_frame_by first_round not_the_host refl) (λ is. apart_by first_round not_the_host refl)
    (λ is. alike_by first_round not_the_host refl) (λ is. absurd (is refl)) (λ is. silent_by first_round not_the_host true_time refl)
