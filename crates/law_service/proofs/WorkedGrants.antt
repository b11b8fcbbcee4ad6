-- What a host grants for its next round from worked tables, computed from the definitions; and where not all fits, some wait.
use Rattle.std.proofs.Common.{◌≡◌, ℕ, [], ◌∷◌, map, length, refl}
use Rattle.law_service.proofs.Words.{range_with_len, count_of, owed_to, plan_round, total, turns, TableEntry, Table}

-- streams that were accepted in frame 5, of one packet in this many seconds, or one a second
abbrev stream_every : ℕ → ℕ → TableEntry
stream_every interval c = record { code = c; boot = 1; interval = interval; accepted = 5; granted = 0; unheard = 0 }

abbrev every_second : ℕ → TableEntry
every_second c = stream_every 1 c

abbrev table_of : ℕ → Table
table_of n = record { entries = map every_second (range_with_len 40 n); place = 0 }

-- one packet in ten seconds: sixteen seconds later one slot is owed
one_stream : ((plan_round 4 5 (record { entries = stream_every 10 40 ∷ []; place = 0 })).gap ≡ 4)
    × ((plan_round 4 5 (record { entries = stream_every 10 40 ∷ []; place = 0 })).owners ≡ 40 ∷ [])
unfolding plan_round turns
one_stream = (refl, refl)

-- ten streams of a packet a second fill the next frame's round
ten_streams : ((plan_round 4 5 (table_of 10)).gap ≡ 1) × (total 4 6 (table_of 10).entries ≡ 40) × (count_of 49 (plan_round 4 5 (table_of 10)).owners ≡ 4)
unfolding plan_round turns
ten_streams = (refl, refl, refl)

-- of eleven not all fits, and the last has a slot less than it is owed
eleven_streams : (total 4 6 (table_of 11).entries ≡ 44) × (length (plan_round 4 5 (table_of 11)).owners ≡ 40)
    × (owed_to 4 6 (every_second 50) ≡ 4) × (count_of 50 (plan_round 4 5 (table_of 11)).owners ≡ 3)
unfolding plan_round turns
eleven_streams = (refl, refl, refl, refl)
