-- Worked examples of the rules.
use Rattle.std.proofs.Common.{◌≡◌, ◌+◌, List, [], ◌∷◌, replicate, ◌++◌, refl, Some, None, true, false, map, fold, length}
use Rattle.std.specs.List.{range_with_len}
use Rattle.bus_rules.specs.Streams.{Streams, cleared, declared, after_put, after_taking, drops, first_waiting, stream_at}
use Rattle.bus_rules.specs.Tuning.{next_tune}
use Rattle.bus_rules.specs.declared.tune.Tune.TheVariants.{Scan, Host}
use Rattle.bus_rules.specs.Tables.{TableEntry, Table, new_entry, is_full, after_request}
use Rattle.bus_rules.specs.Granting.{owed, total, turns, plan_round}

tunes : (next_tune (Scan 0 4) 4 false (Some 0) 1 ≡ Host 0 5) × (next_tune (Scan 0 4) 4 false None 1 ≡ Scan 0 5)
    × (next_tune (Scan 1 11) 33 false None 2 ≡ Scan 0 0)
tunes = (refl, refl, refl)

owed_four : owed 4 13 5 4 4 ≡ 4
owed_four = refl

-- owner 8 at interval 1 and owner 12 at interval 40, both accepted in frame 0
entries : List TableEntry
entries =
    record { code = 8; boot = 1; interval = 1; accepted = 0; granted = 0; unheard = 0 }
    ∷ record { code = 12; boot = 1; interval = 40; accepted = 0; granted = 0; unheard = 0 } ∷ []

table : Table
table = record { entries = entries; place = 0 }

more_than_fit : total 4 10 entries ≡ 41
unfolding entries
more_than_fit = refl

turned : ((plan_round 4 9 table).gap ≡ 1) × ((plan_round 4 9 table).owners ≡ replicate 39 8 ++ 12 ∷ []) × ((plan_round 4 9 table).table.place ≡ 9)
unfolding entries table turns plan_round
turned = (refl, refl, refl)

-- sixteen packets wait
sixteen : Streams
sixteen = fold (λ s i. after_put 0 (i ∷ []) s) (declared 0 4 cleared) (range_with_len 0 16)

full_queue : (drops sixteen 0 ≡ true) × (first_waiting sixteen 0 ≡ Some (record { seq = 0; payload = 0 ∷ [] })) × (drops (after_taking 0 sixteen) 0 ≡ false)
    × ((stream_at (after_taking 0 sixteen) 0).next ≡ 16)
unfolding sixteen
full_queue = (refl, refl, refl, refl)

-- a full table without owner 8
crowded : Table
crowded = record { entries = map (λ i. new_entry (record { node = 10 + i; boot = 1; stream = 0; interval = 4 }) 0) (range_with_len 0 32); place = 0 }

request_full : (is_full (record { node = 2; boot = 1; stream = 0; interval = 4 }) crowded ≡ true)
    × (is_full (record { node = 2; boot = 1; stream = 0; interval = 0 }) crowded ≡ false)
    × (length (after_request 5 crowded (record { node = 2; boot = 1; stream = 0; interval = 0 })).entries ≡ 32)
unfolding crowded
request_full = (refl, refl, refl)
