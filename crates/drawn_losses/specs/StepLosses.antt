-- The losses in a step of a flood, and two traces with the same captures.
use Rattle.std.specs.Prelude.{◌≡◌, ℕ, List, filter, flat_map, map}
use Rattle.link_trace.specs.Passes.{Lines, captured}
use Rattle.link_trace.specs.declared.lines.LoseLine.{LoseLine}
use Rattle.scenario_text.specs.ScenarioParts.{ScenarioParts}
use Rattle.bus_terms.specs.Bus.{ranks_of}
use Rattle.bus_terms.specs.Flooding.{Setting}
use Rattle.plain_bus.specs.RunFloods.{SlotFlood}
use Rattle.drawn_bus.specs.FloodLosses.{is_lost_in, line_at, losses_of_flood, losses_of_round}

abbrev pub HaveSameCaptures : Lines → Lines → Type 0
HaveSameCaptures a b = (f j k v : ℕ) → captured a f j k v ≡ captured b f j k v

-- the losses of the flood in step k from node u, by receiver, and of all nodes
abbrev pub losses_by : Lines → ℕ → ℕ → List ℕ → Setting → ℕ → ℕ → List LoseLine
losses_by t f j nodes x k u = map (line_at f j k u) (filter (is_lost_in t f j x k u) nodes)

abbrev pub losses_of_step : Lines → ℕ → ℕ → List ℕ → Setting → ℕ → List LoseLine
losses_of_step t f j nodes x k = flat_map (losses_by t f j nodes x k) nodes

-- of these floods of frame f, one after another
abbrev pub losses_of_floods : Lines → ℕ → List ℕ → List SlotFlood → List LoseLine
losses_of_floods t f nodes ys = flat_map (λ y. losses_of_flood t f y.slot nodes y.flood) ys

-- of frame f on the bus of d, by rank
abbrev pub losses_of_frame : ScenarioParts → ScenarioParts → ℕ → List LoseLine
losses_of_frame s d f = flat_map (λ rank. losses_of_round s d rank f) (ranks_of s)
