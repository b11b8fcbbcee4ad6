-- The flood of a flood text: one initiator, in slot 1 of frame 5.
use Rattle.std.specs.Prelude.{ℕ, List, [], ◌∷◌, map, filter_map, option_map}
use Rattle.std.specs.declared.option.Option.{Option}
use Rattle.link_trace.specs.Passes.{passes, captured}
use Rattle.scenario_text.specs.FloodParts.{FloodParts}
use Rattle.scenario_text.specs.declared.lines.NodeLine.{NodeLine}
use Rattle.bus_rules.specs.FloodOutcome.{Outcome}
use Rattle.bus_terms.specs.Flooding.{Setting, accepted, sendings}

abbrev pub ids : List NodeLine → List ℕ
ids nodes = map (λ n. n.node) nodes

-- the starting node initiates, and all others listen
abbrev pub setting : FloodParts → Setting
setting f = record {
  limit = f.sends;
  passes = λ k u v. passes f.trace 5 1 k u v;
  captured = λ k v. captured f.trace 5 1 k v;
  initiators = f.start ∷ [];
  everyone = ids f.nodes;
}

-- a listener that accepted, with the step
abbrev pub acceptance : Setting → ℕ → Option (ℕ × ℕ)
acceptance s v = option_map (λ a. (v, a.1)) (accepted s v)

-- the accepting nodes in the order of the text, and the number of transmissions
abbrev pub outcome : FloodParts → Outcome
outcome f = let s = setting f in record { accepts = filter_map (acceptance s) s.everyone; sent = sendings s }
