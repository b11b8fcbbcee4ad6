-- Who receives in small cases that can be worked out manually: nodes 1 and 2 have links to node 3.
use Rattle.std.proofs.Common.{◌≡◌, ℕ, List, [], ◌∷◌, Option, Some, None, refl}
use Rattle.lwb_base.specs.Profile.{one}
use Rattle.link_trace.specs.Passes.{Lines}
use Rattle.link_trace.specs.declared.lines.CaptureLine.{CaptureLine}
use Rattle.radio_model.specs.Stations.{MediumState, first_state, medium_after_change, station_after_tuning, station_after_start, station_after_end, station_of}
use Rattle.radio_model.specs.Stations.{sending_of_station}
use Rattle.radio_model.specs.Meetings.{hearers_to}
use Rattle.radio_model.specs.declared.sending.Sending.{Sending}

abbrev lines : List CaptureLine → Lines
lines captures = record { links = record { from = 1; to = 3 } ∷ record { from = 2; to = 3 } ∷ []; losses = []; cuts = []; captures = captures }

-- in the first slot of frame 0, step 0, node 3 captures node 2
abbrev captures_two : List CaptureLine
captures_two = record { frame = 0; slot = 1; step = 0; at = 3; from = 2 } ∷ []

-- two packets of 8 bytes, 32,768 ticks on the air
abbrev packet : ℕ → List ℕ
packet n = 2 ∷ 1 ∷ 0 ∷ 1 ∷ 1 ∷ 0 ∷ 0 ∷ n ∷ []

abbrev tune : ℕ → Option ℕ → ℕ → MediumState → MediumState
tune v rank t m = medium_after_change t v (station_after_tuning rank t) m

abbrev send : ℕ → ℕ → ℕ → MediumState → MediumState
send v t n m = medium_after_change t v (station_after_start one t (packet n)) m

abbrev ends : ℕ → ℕ → MediumState → MediumState
ends v t m = medium_after_change t v station_after_end m

abbrev all_tuned : MediumState
all_tuned = tune 3 (Some 0) 10 (tune 2 (Some 0) 10 (tune 1 (Some 0) 10 (first_state one (1 ∷ 2 ∷ 3 ∷ []))))

abbrev of_sending : List CaptureLine → ℕ → MediumState → Option Sending → List (ℕ × ℕ)
of_sending captures u m None = []
of_sending captures u m (Some x) = hearers_to one (lines captures) u x m.stations

abbrev heard : List CaptureLine → ℕ → MediumState → List (ℕ × ℕ)
heard captures u m = of_sending captures u m (sending_of_station (station_of m u))

alone : heard [] 1 (send 1 100 0 all_tuned) ≡ (3, 1) ∷ []
alone = refl

-- equal packets at once count as one, from the lesser sender
equal_at_once : heard [] 1 (send 2 100 0 (send 1 100 0 all_tuned)) ≡ (3, 1) ∷ []
equal_at_once = refl

equal_at_once_later : heard [] 2 (ends 1 32868 (send 2 100 0 (send 1 100 0 all_tuned))) ≡ []
equal_at_once_later = refl

equal_within_32 : heard [] 1 (send 2 132 0 (send 1 100 0 all_tuned)) ≡ (3, 1) ∷ []
equal_within_32 = refl

equal_by_33 : heard [] 1 (send 2 133 0 (send 1 100 0 all_tuned)) ≡ []
equal_by_33 = refl

different : heard [] 1 (send 2 100 1 (send 1 100 0 all_tuned)) ≡ []
different = refl

different_captured : heard captures_two 2 (send 2 100 1 (send 1 100 0 all_tuned)) ≡ (3, 2) ∷ []
different_captured = refl

different_not_captured : heard captures_two 1 (send 2 100 1 (send 1 100 0 all_tuned)) ≡ []
different_not_captured = refl

-- a transmission that has ended counts while it overlaps, and one that only touches does not
ended_overlaps : heard [] 2 (ends 1 32868 (send 2 32867 1 (send 1 100 0 all_tuned))) ≡ []
ended_overlaps = refl

ended_touches : heard [] 2 (send 2 32868 1 (ends 1 32868 (send 1 100 0 all_tuned))) ≡ (3, 2) ∷ []
ended_touches = refl

-- the tuning ends at the very tick, and a tick before
off_at_the_end : heard [] 1 (tune 3 None 32868 (send 1 100 0 all_tuned)) ≡ (3, 1) ∷ []
off_at_the_end = refl

off_before_the_end : heard [] 1 (tune 3 None 32867 (send 1 100 0 all_tuned)) ≡ []
off_before_the_end = refl

-- two tunings that meet are one, also by way of another channel in no time
tunings_meet : heard [] 1 (tune 3 (Some 0) 150 (tune 3 (Some 1) 150 (tune 3 None 150 (send 1 100 0 all_tuned)))) ≡ (3, 1) ∷ []
tunings_meet = refl

tunings_apart : heard [] 1 (tune 3 (Some 0) 151 (tune 3 None 150 (send 1 100 0 all_tuned))) ≡ []
tunings_apart = refl

tuned_late : heard [] 1 (tune 3 (Some 0) 101 (send 1 100 0 (tune 3 None 50 all_tuned))) ≡ []
tuned_late = refl

other_channel : heard [] 1 (send 1 100 0 (tune 3 (Some 1) 50 all_tuned)) ≡ []
other_channel = refl

-- a transmission on another channel is no rival
apart_by_channel : heard [] 1 (send 2 100 1 (send 1 100 0 (tune 2 (Some 1) 50 all_tuned))) ≡ (3, 1) ∷ []
apart_by_channel = refl

sends_meanwhile : heard [] 1 (send 3 32000 1 (send 1 100 0 all_tuned)) ≡ []
sends_meanwhile = refl
