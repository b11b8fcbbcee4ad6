-- What rounds and frames cost the nodes.
use Rattle.std.specs.Prelude.{ℕ, ◌+◌, nat_lt, if◌then◌else◌, sum_by, count_by}
use Rattle.std.specs.List.{range_with_len}
use Rattle.lwb_base.specs.Messages.{Plan}
use Rattle.scenario_text.specs.ScenarioParts.{ScenarioParts}
use Rattle.bus_rules.specs.States.{State}
use Rattle.bus_rules.specs.Tuning.{is_scan}
use Rattle.bus_terms.specs.Bus.{Cost, state_at}
use Rattle.bus_terms.specs.Costs.{over_round, slot_sent, slot_window}
use Rattle.bus_terms.specs.Rounds.{rank_in, slot_at}
use Rattle.bus_terms.specs.ScriptedStates.{is_on_and}
use Rattle.plain_bus.specs.BusNodes.{ranks_in}

-- a cost with those of the first n slots of a round
abbrev pub with_slots : ScenarioParts → ℕ → ℕ → Plan → (ℕ → State) → ℕ → ℕ → Cost → Cost
with_slots s rank f p states n v c = record c {
  sent = c.sent + sum_by (λ j. slot_sent s.profile (slot_at s rank f p states j) v) (range_with_len 0 n);
  windows = c.windows + sum_by (λ j. slot_window s.profile (slot_at s rank f p states j) v) (range_with_len 0 n);
}

-- with that of the whole round
abbrev pub with_round : ScenarioParts → ℕ → ℕ → (ℕ → State) → ℕ → Cost → Cost
with_round s rank f states v c = record c {
  sent = c.sent + over_round (λ x. slot_sent s.profile x v) s rank f states;
  windows = c.windows + over_round (λ x. slot_window s.profile x v) s rank f states;
}

-- with that of the rounds of the ranks below r
abbrev pub cost_below : ScenarioParts → ℕ → (ℕ → State) → ℕ → (ℕ → Cost) → ℕ → Cost
cost_below s f start r cost v = if nat_lt (ranks_in start v) r then with_round s (ranks_in start v) f start v (cost v) else cost v

-- a frame more, if the node scans in it
abbrev pub with_scan : State → Cost → Cost
with_scan x c = record c { scanned = c.scanned + (if is_on_and (λ k. is_scan k.tune) x then 1 else 0) }

-- what the first n frames cost node v
abbrev pub cost_after : ScenarioParts → ℕ → ℕ → Cost
cost_after s n v = record {
  sent = sum_by (λ f. over_round (λ x. slot_sent s.profile x v) s (rank_in (state_at s f v)) f (state_at s f)) (range_with_len 0 n);
  windows = sum_by (λ f. over_round (λ x. slot_window s.profile x v) s (rank_in (state_at s f v)) f (state_at s f)) (range_with_len 0 n);
  scanned = count_by (λ f. is_on_and (λ c. is_scan c.tune) (state_at s f v)) (range_with_len 0 n);
}
