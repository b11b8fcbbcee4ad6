-- The bytes of a flood report.
use Rattle.std.specs.Prelude.{ℕ, List, [], ◌∷◌, ◌++◌, codes, decimal, flat_map}
use Rattle.bus_rules.specs.FloodOutcome.{Outcome}

abbrev pub accept_line : ℕ × ℕ → List ℕ
accept_line a = codes "accept " ++ decimal a.0 ++ codes " " ++ decimal a.1 ++ 10 ∷ []

abbrev pub sent_count_line : ℕ → List ℕ
sent_count_line n = codes "sent " ++ decimal n ++ 10 ∷ []

-- a line for each accepting node and its step, then the number of all transmissions
abbrev pub flood_report : Outcome → List ℕ
flood_report o = flat_map accept_line o.accepts ++ sent_count_line o.sent
