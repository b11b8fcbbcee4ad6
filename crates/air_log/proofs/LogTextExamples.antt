-- The log text, tried on the first entries of a run, and on entries that its order leaves equal.
use Rattle.std.proofs.Common.{◌≡◌, ℕ, List, [], ◌∷◌, ◌++◌, refl, codes}
use Rattle.std.specs.Fmt.{digits}
use Rattle.air_log.specs.LogText.{log_text}
use Rattle.air_log.specs.declared.entry.Entry.{Entry}
use Rattle.air_log.specs.declared.entry.Entry.TheVariants.{Sent, Heard, Tuned}

abbrev tuned : ℕ → ℕ → ℕ → ℕ → Entry
tuned rank node start end = Tuned (record { rank = rank; node = node; start = start; end = end })

abbrev schedule : List ℕ
schedule = 1 ∷ 0 ∷ 0 ∷ 0 ∷ 1 ∷ 0 ∷ 0 ∷ 0 ∷ 0 ∷ 0 ∷ []

abbrev sent_schedule : Entry
sent_schedule = Sent (record { rank = 0; node = 1; start = 1344064000; end = 1344100864; packet = schedule })

abbrev heard_schedule : Entry
heard_schedule = Heard (record { rank = 0; node = 2; from = 1; start = 1344064000; end = 1344100864; packet = schedule })

abbrev first_entries : List Entry
first_entries = tuned 0 1 1344000000 1344199168 ∷ heard_schedule ∷ tuned 0 2 0 1344248320 ∷ sent_schedule ∷ tuned 0 1 0 1228800000 ∷ []

first_round : log_text first_entries
    ≡ codes "tuned 0 1 0 1228800000\ntuned 0 2 0 1344248320\ntuned 0 1 1344000000 1344199168\n"
    ++ codes "sent 0 1 1344064000 1344100864 01000000010000000000\nheard 0 2 1 1344064000 1344100864 01000000010000000000\n"
unfolding digits
first_round = refl

-- ranks, senders and ends do not count, and kinds count more than nodes
abbrev heard_by : ℕ → ℕ → ℕ → List ℕ → Entry
heard_by rank node from packet = Heard (record { rank = rank; node = node; from = from; start = 64; end = 30784; packet = packet })

abbrev equal_entries : List Entry
equal_entries = tuned 1 1 64 9 ∷ heard_by 1 3 9 (171 ∷ 10 ∷ 255 ∷ []) ∷ tuned 0 1 64 8 ∷ heard_by 0 3 4 (1 ∷ 2 ∷ 3 ∷ []) ∷ []

equals_keep_their_order : log_text equal_entries ≡ codes "heard 1 3 9 64 30784 ab0aff\nheard 0 3 4 64 30784 010203\ntuned 1 1 64 9\ntuned 0 1 64 8\n"
unfolding digits
equals_keep_their_order = refl
